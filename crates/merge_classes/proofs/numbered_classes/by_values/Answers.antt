use Rattle.std.proofs.Common.{subst, sym}
use Rattle.std.proofs.lemmas.Result.{IfOk-weaker}
use Rattle.partitions.specs.Views.{layout}
use Rattle.partition_edges.specs.Edges.{ReferAlike}
use Rattle.partition_refinement.specs.Rounds.{IsRefined}
use Rattle.row_signatures.proofs.Agreeing.{refer_alike}
use Rattle.merge_classes.proofs.numbered_classes.by_values.Goals as goal

pub refine-requires-clause-alike : goal.refine-requires-clause-alike
refine-requires-clause-alike c =
    let signatures = c.args.signatures.now in
    subst (ReferAlike signatures.edges) (sym c.deref.ensures.value)
    (refer_alike c.args.input.now c.len-rows.ensures.population signatures.edges c.requires.signatures.1.references
    c.requires.signatures.0 signatures.shapes.items c.requires.signatures.1.shaped)

pub returns : goal.returns
returns c pinned are =
    let start = layout c.args.parts.now in
    let end = layout c.refine.new.parts in
    let signatures = c.args.signatures.now in
    IfOk-weaker c.refine.result _ _ (λ rounds h. record {
      edges = signatures.edges;
      shapes = signatures.shapes.items;
      references = are.references;
      shaped = are.shaped;
      refined = subst (λ ns. IsRefined signatures.edges ns start end rounds.counts.items) c.deref.ensures.value h;
    }) c.refine.ensures
