use Rattle.std.proofs.Common.{rules, ◌≡◌, ℕ, Bool, false, ◌||◌, ◌+◌, ◌<◌, ◌∙◌, List, length, map, get_or, vec_len, ap, sym, arith}
use Rattle.std.proofs.lemmas.List.{length-map, get_or_read}
use Rattle.graphs.specs.Graphs.{Graph}
use Rattle.graphs.proofs.Gathered.{order-inside}
use Rattle.graphs.specs.steps.Forests.{parent}
use Rattle.graphs.proofs.ForestOrders.{parent-within, within-at}
use Rattle.graphs.proofs.Spreading.{down-next}
use Rattle.graphs.proofs.marks.spread_along.Goals as goal

pub parent-requires : goal.parent-requires
parent-requires c =
    order-inside (λ v. v.items) c.args.edges.now c.args.order.now c.loop-vertex.vertex-index c.requires.order
    (omega (arith, c.loop-vertex-test.true))

pub index-above-requires : goal.index-above-requires
index-above-requires c =
    let g : Graph = map (λ v. v.items) c.args.edges.now in
    let x = get_or c.args.order.now c.loop-vertex.vertex-index 0 in
    let low = parent-within g c.requires.forest x in
    let is = c.parent.ensures in
    let long = c.loop-vertex.invariant.long in
    let whole : length c.loop-vertex.marks.items ≡ vec_len c.loop-vertex.marks = search rules in
    omega (arith, low, is, long, whole)

pub bounds-marked-vertex : goal.bounds-marked-vertex
bounds-marked-vertex c =
    let low = order-inside (λ v. v.items) c.args.edges.now c.args.order.now c.loop-vertex.vertex-index c.requires.order
    (omega (arith, c.loop-vertex-test.true)) in
    let same = c.requires.marked in
    omega (arith, low, same)

pub index_mut-requires : goal.index_mut-requires
index_mut-requires c =
    let g : Graph = map (λ v. v.items) c.args.edges.now in
    let here : c.loop-vertex.vertex-index < length c.args.order.now = omega (arith, c.loop-vertex-test.true) in
    let low = within-at g c.requires.forest c.args.order.now c.requires.order c.loop-vertex.vertex-index here in
    let long = c.loop-vertex.invariant.long in
    let whole : length c.loop-vertex.marks.items ≡ vec_len c.loop-vertex.marks = search rules in
    omega (arith, low, long, whole)

pub loop-vertex-preserved : goal.loop-vertex-preserved
loop-vertex-preserved c =
    let g : Graph = map (λ v. v.items) c.args.edges.now in
    let order = c.args.order.now in
    let i = c.loop-vertex.vertex-index in
    let x = get_or order i 0 in
    let marks = c.loop-vertex.marks.items in
    let here : i < length order = omega (arith, c.loop-vertex-test.true) in
    let low = within-at g c.requires.forest order c.requires.order i here in
    let up = parent-within g c.requires.forest x in
    let many = c.loop-vertex.invariant.long in
    let is = c.parent.ensures in
    let above : c.index-above.result.now ≡ get_or marks (parent g x) false =
    get_or_read marks _ _ (omega (arith, is, up, many)) c.index-above.ensures false ∙ ap (λ q. get_or marks q false) is in
    down-next g c.requires.forest order c.requires.order c.args.marked.now marks i _ here c.loop-vertex.invariant
    (c.either.ensures ∙ ap (λ b. get_or c.args.marked.now x false || b) above)
