use Rattle.std.proofs.Common.{◌≡◌, ◌∙◌, ◌<◌, ap, sym, subst, arith, length, map}
use Rattle.std.proofs.lemmas.List.{length-map}
use Rattle.graphs.specs.Graphs.{Graph, IsGraph, graph_of}
use Rattle.schema_attribute_references.specs.steps.Taking.{schema_in}
use Rattle.schema_derived_attributes.specs.AttributeRanks.{AreUses, AreFaulty}
use Rattle.schema_unchecked.specs.steps.Surveyed.{uses_below, is_faulty}
use Rattle.schema_unchecked.proofs.Used.{is-graph, are-uses, are-faulty}
use Rattle.schema_unchecked.proofs.derivations.derivation_ranks.Goals as goal

pub rank_derivations-requires-clause-uses : goal.rank_derivations-requires-clause-uses
rank_derivations-requires-clause-uses c =
    let s = schema_in c.args.known.now in
    subst (AreUses s) (sym (ap graph_of c.deref.ensures.value ∙ c.in_ok-uses.ensures))
    (are-uses s c.requires.known.resolved c.args.judged.now c.requires.judged)

pub rank_derivations-requires-clause-graph : goal.rank_derivations-requires-clause-graph
rank_derivations-requires-clause-graph c =
    let s = schema_in c.args.known.now in
    subst IsGraph (sym (ap graph_of c.deref.ensures.value ∙ c.in_ok-uses.ensures))
    (is-graph s c.requires.known.resolved c.args.judged.now c.requires.judged)

pub rank_derivations-requires-clause-few : goal.rank_derivations-requires-clause-few
rank_derivations-requires-clause-few c =
    let most = c.if-judged-gt-MOST_DERIVATIONS.false in
    let rows = ap length c.in_ok-uses.ensures in
    let one : length (graph_of c.in_ok-uses.uses.items) ≡ length c.in_ok-uses.uses.items =
    length-map c.in_ok-uses.uses.items (λ v. v.items) in
    let other = length-map c.args.judged.now (uses_below (length c.args.judged.now)) in
    let whole : length c.deref.result.now ≡ length c.in_ok-uses.uses.items = ap length c.deref.ensures.value in
    omega (arith, most, rows, one, other, whole)

pub rank_derivations-requires-clause-faulty : goal.rank_derivations-requires-clause-faulty
rank_derivations-requires-clause-faulty c =
    let s = schema_in c.args.known.now in
    subst (AreFaulty s) (sym (c.deref-2.ensures.value ∙ c.in_ok-faulty.ensures))
    (are-faulty s c.requires.known.resolved c.args.judged.now c.requires.judged)
