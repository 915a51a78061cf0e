use Rattle.std.proofs.Common.{rules, ◌≡◌, ℕ, ◌+◌, ◌<◌, ◌≤◌, ◌∙◌, List, length, map, take, get_or, set, vec_len, sym, ap, subst, arith}
use Rattle.std.proofs.lemmas.List.{length-map, get_or_read, take_all}
use Rattle.graphs.specs.Graphs.{Graph}
use Rattle.graphs.proofs.Gathered.{order-inside}
use Rattle.graphs.specs.steps.Forests.{parent}
use Rattle.graphs.specs.steps.Spans.{ArePlaced}
use Rattle.graphs.proofs.ForestOrders.{parent-within, within-at}
use Rattle.graphs.proofs.Placing.{fits, placed-next}
use Rattle.graphs.proofs.spans.firsts_of.Goals as goal

pub parent-requires : goal.parent-requires
parent-requires c =
    order-inside (λ v. v.items) c.args.edges.now c.args.order.now c.loop-vertex.vertex-index c.requires.order
    (omega (arith, c.loop-vertex-test.true))

pub index-above-requires : goal.index-above-requires
index-above-requires c =
    let g : Graph = map (λ v. v.items) c.args.edges.now in
    let x = get_or c.args.order.now c.loop-vertex.vertex-index 0 in
    let low = parent-within g c.requires.forest x in
    let is = c.parent.ensures in
    let long = c.loop-vertex.invariant.long in
    let whole : length c.loop-vertex.firsts.items ≡ vec_len c.loop-vertex.firsts = search rules in
    omega (arith, low, is, long, whole)

pub index-requires : goal.index-requires
index-requires c =
    let g : Graph = map (λ v. v.items) c.args.edges.now in
    let here : c.loop-vertex.vertex-index < length c.args.order.now = omega (arith, c.loop-vertex-test.true) in
    let low = within-at g c.requires.forest c.args.order.now c.requires.order c.loop-vertex.vertex-index here in
    let long = c.requires.sized.starts_long in
    let whole : length c.args.spans.now.starts.items ≡ vec_len c.args.spans.now.starts = search rules in
    omega (arith, low, long, whole)

pub index_mut-requires : goal.index_mut-requires
index_mut-requires c =
    let g : Graph = map (λ v. v.items) c.args.edges.now in
    let here : c.loop-vertex.vertex-index < length c.args.order.now = omega (arith, c.loop-vertex-test.true) in
    let low = within-at g c.requires.forest c.args.order.now c.requires.order c.loop-vertex.vertex-index here in
    let long = c.loop-vertex.invariant.long in
    let whole : length c.loop-vertex.firsts.items ≡ vec_len c.loop-vertex.firsts = search rules in
    omega (arith, low, long, whole)

pub overflow_add-above : goal.overflow_add-above
overflow_add-above c =
    let g : Graph = map (λ v. v.items) c.args.edges.now in
    let order = c.args.order.now in
    let i = c.loop-vertex.vertex-index in
    let x = get_or order i 0 in
    let firsts = c.loop-vertex.firsts.items in
    let starts = c.args.spans.now.starts.items in
    let here : i < length order = omega (arith, c.loop-vertex-test.true) in
    let low = within-at g c.requires.forest order c.requires.order i here in
    let up = parent-within g c.requires.forest x in
    let many = c.loop-vertex.invariant.long in
    let wide = c.requires.sized.starts_long in
    let is = c.parent.ensures in
    let above : c.index-above.result.now ≡ get_or firsts (parent g x) 0 =
    get_or_read firsts _ _ (omega (arith, is, up, many)) c.index-above.ensures 0 ∙ ap (λ q. get_or firsts q 0) is in
    let start : c.index.result.now ≡ get_or starts x 0 =
    get_or_read starts _ _ (omega (arith, low, wide)) c.index.ensures 0 in
    let room = fits g c.requires.forest order c.requires.order starts c.args.spans.now.sizes.items c.requires.sized i here firsts
    c.loop-vertex.invariant in
    let long = length-map c.args.edges.now (λ v. v.items) in
    let few = c.requires.few in
    omega (arith, above, start, room, long, few)

pub loop-vertex-preserved : goal.loop-vertex-preserved
loop-vertex-preserved c =
    let g : Graph = map (λ v. v.items) c.args.edges.now in
    let order = c.args.order.now in
    let i = c.loop-vertex.vertex-index in
    let x = get_or order i 0 in
    let firsts = c.loop-vertex.firsts.items in
    let starts = c.args.spans.now.starts.items in
    let here : i < length order = omega (arith, c.loop-vertex-test.true) in
    let low = within-at g c.requires.forest order c.requires.order i here in
    let up = parent-within g c.requires.forest x in
    let many = c.loop-vertex.invariant.long in
    let wide = c.requires.sized.starts_long in
    let is = c.parent.ensures in
    let above : c.index-above.result.now ≡ get_or firsts (parent g x) 0 =
    get_or_read firsts _ _ (omega (arith, is, up, many)) c.index-above.ensures 0 ∙ ap (λ q. get_or firsts q 0) is in
    let start : c.index.result.now ≡ get_or starts x 0 =
    get_or_read starts _ _ (omega (arith, low, wide)) c.index.ensures 0 in
    placed-next g c.requires.forest order c.requires.order starts c.args.spans.now.sizes.items c.requires.sized i here firsts
    c.loop-vertex.invariant (c.index-above.result.now + c.index.result.now)
    (ap (λ n. n + c.index.result.now) above ∙ ap (λ n. get_or firsts (parent g x) 0 + n) start)

pub returns : goal.returns
returns c =
    let g : Graph = map (λ v. v.items) c.args.edges.now in
    subst (λ done. ArePlaced g done c.args.spans.now.starts.items c.args.spans.now.sizes.items c.loop-vertex.firsts.items)
    (take_all c.loop-vertex.vertex-index c.args.order.now c.loop-vertex-test.false) c.loop-vertex.invariant
