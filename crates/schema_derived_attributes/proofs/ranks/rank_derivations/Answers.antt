use Rattle.std.proofs.Common.{◌≡◌, ◌∙◌, length, arith, sym, subst, ap}
use Rattle.std.proofs.lemmas.List.{length-map}
use Rattle.std.proofs.lemmas.Map.Steps.{length-le_from_distinct_below}
use Rattle.std.proofs.lemmas.Result.{IfOk-weaker}
use Rattle.graphs.specs.Graphs.{graph_of}
use Rattle.graphs.specs.Orders.{IsOrder, IsTopologicalOrder}
use Rattle.schema_names.specs.Schemas.{the_schema}
use Rattle.schema_derived_attributes.proofs.Ranked.{both-ok, are-ranks-of}
use Rattle.schema_derived_attributes.proofs.ranks.rank_derivations.Goals as goal

pub order-requires-clause-graph : goal.order-requires-clause-graph
order-requires-clause-graph c = c.requires.graph

pub ranks_along-requires-clause-few : goal.ranks_along-requires-clause-few
ranks_along-requires-clause-few c =
    let o = c.in_ok-order.ensures.order in
    let most = length-le_from_distinct_below c.in_ok-order.order.items (length (graph_of c.args.uses.now)) o.once
    o.within in
    let same : length (graph_of c.args.uses.now) ≡ length c.args.uses.now = length-map c.args.uses.now (λ v. v.items) in
    let few = c.requires.few in
    let count = c.deref.ensures.len in
    let whole : length c.deref.result.now ≡ length c.in_ok-order.order.items = ap length c.deref.ensures.value in
    omega (arith, most, same, few, whole)

pub ranks_along-requires-clause-order : goal.ranks_along-requires-clause-order
ranks_along-requires-clause-order c =
    subst (IsOrder (graph_of c.args.uses.now)) (sym c.deref.ensures.value) c.in_ok-order.ensures.order

pub ranks_along-requires-clause-faulty : goal.ranks_along-requires-clause-faulty
ranks_along-requires-clause-faulty c =
    let same : length (graph_of c.args.uses.now) ≡ length c.args.uses.now = length-map c.args.uses.now (λ v. v.items) in
    c.requires.faulty.same ∙ sym c.requires.uses.same ∙ same

pub returns : goal.returns
returns c =
    let g = graph_of c.args.uses.now in
    let same : length g ≡ length c.args.uses.now = length-map c.args.uses.now (λ v. v.items) in
    let order = subst (IsTopologicalOrder g) (sym c.deref.ensures.value) c.in_ok-order.ensures in
    IfOk-weaker c.ranks_along.result _ _
    (λ t long. are-ranks-of (the_schema c.args.names.now) c.requires.resolved g c.requires.uses
    c.requires.graph c.args.faulty.now c.requires.faulty c.deref.result.now order t.items (long.0 ∙ sym same)
    long.1.0 long.1.1) (both-ok c.ranks_along.result _ _ c.ranks_along.ensures.length (both-ok c.ranks_along.result _ _
    c.ranks_along.ensures.ranks c.ranks_along.ensures.others))
