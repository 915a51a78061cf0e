use Rattle.std.proofs.Common.{map, sym, subst}
use Rattle.std.proofs.lemmas.Result.{IfOk-weaker}
use Rattle.graphs.specs.Graphs.{Graph}
use Rattle.graphs.specs.Orders.{IsOrder}
use Rattle.graphs.specs.steps.Forests.{IsComplete}
use Rattle.graphs.proofs.ForestOrders.{complete}
use Rattle.graphs.proofs.Spreading.{spreads}
use Rattle.graphs.proofs.marks.spread.Goals as goal

pub returns : goal.returns
returns c =
    let g : Graph = map (λ v. v.items) c.args.edges.now in
    let h = c.requires.forest in
    IfOk-weaker c.spread_along.result _ _
    (λ v d. spreads g h c.deref.result.now (subst (IsOrder g) (sym c.deref.ensures.value) c.in_ok-order.ensures.order)
    c.args.marked.now
    (subst (IsComplete g) (sym c.deref.ensures.value) (complete g h c.in_ok-order.order.items c.in_ok-order.ensures)) v.items d)
    c.spread_along.ensures
