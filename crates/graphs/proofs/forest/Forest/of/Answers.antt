use Rattle.std.proofs.Common.{map, refl, sym, subst}
use Rattle.graphs.specs.Graphs.{Graph}
use Rattle.graphs.specs.Orders.{IsOrder}
use Rattle.graphs.specs.steps.Forests.{IsComplete}
use Rattle.graphs.specs.steps.Spans.{ArePlaced}
use Rattle.graphs.proofs.ForestOrders.{complete}
use Rattle.graphs.proofs.Laying.{tells}
use Rattle.graphs.proofs.forest.Forest.of.Goals as goal

pub sizes_of-requires-clause-complete : goal.sizes_of-requires-clause-complete
sizes_of-requires-clause-complete c =
    let g : Graph = map (λ v. v.items) c.args.edges.now in
    subst (IsComplete g) (sym c.deref.ensures.value)
    (complete g c.requires.forest c.in_ok-order.order.items c.in_ok-order.ensures)

pub returns : goal.returns
returns c =
    let g : Graph = map (λ v. v.items) c.args.edges.now in
    let h = c.requires.forest in
    let spans = c.in_ok-spans.spans in
    let order = c.in_ok-order.order.items in
    tells g h order c.in_ok-order.ensures.order (complete g h order c.in_ok-order.ensures) spans.starts.items spans.sizes.items
    c.in_ok-firsts.firsts.items c.in_ok-spans.ensures
    (subst (λ l. ArePlaced g l spans.starts.items spans.sizes.items c.in_ok-firsts.firsts.items) c.deref-2.ensures.value
    c.in_ok-firsts.ensures) (record { firsts = c.in_ok-firsts.firsts; sizes = spans.sizes }) refl refl
