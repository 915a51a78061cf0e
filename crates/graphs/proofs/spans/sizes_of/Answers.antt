use Rattle.std.proofs.Common.{◌≡◌, ℕ, ◌+◌, ◌-◌, ◌<◌, ◌≤◌, ◌∙◌, List, length, map, take, get_or, sym, ap, subst, arith}
use Rattle.std.specs.Prelude.{replicate, true}
use Rattle.std.proofs.lemmas.List.{length-map, length-replicate, take_all}
use Rattle.graphs.specs.Graphs.{Graph, has}
use Rattle.graphs.specs.steps.Spans.{Sized}
use Rattle.graphs.proofs.ForestOrders.{parent-within}
use Rattle.graphs.proofs.Sizing.{sized-first, vertex-low, room-down, sized-down}
use Rattle.graphs.proofs.spans.sizes_of.Goals as goal

pub loop-left-init : goal.loop-left-init
loop-left-init c =
    let g : Graph = map (λ v. v.items) c.args.edges.now in
    let order = c.args.order.now in
    let long = length-map c.args.edges.now (λ v. v.items) in
    let all = take_all (length order) order (omega arith) in
    let starts : c.in_ok-starts.starts.items ≡ replicate (length c.args.edges.now) 0 =
    c.in_ok-starts.ensures.items_if_clones_equal (λ y h. h) in
    let sizes : c.in_ok-sizes.sizes.items ≡ replicate (length c.args.edges.now + 1) 1 =
    c.in_ok-sizes.ensures.items_if_clones_equal (λ y h. h) in
    record {
      within = omega arith;
      sized = subst (λ l. Sized g l c.in_ok-starts.starts.items c.in_ok-sizes.sizes.items) (sym all)
          (sized-first g order c.in_ok-starts.starts.items c.in_ok-sizes.sizes.items c.requires.complete
          (ap length starts ∙ length-replicate (length c.args.edges.now) 0 ∙ sym long)
          (sizes ∙ ap (λ n. replicate (n + 1) 1) (sym long)));
    }

pub parent-requires : goal.parent-requires
parent-requires c =
    let g : Graph = map (λ v. v.items) c.args.edges.now in
    let long = length-map c.args.edges.now (λ v. v.items) in
    let left = c.loop-left.left in
    let more : left ≡ (left - 1) + 1 = omega (arith, c.loop-left-test.true) in
    let low = vertex-low g c.requires.forest c.args.order.now c.requires.order (left - 1) left more c.loop-left.invariant.within
    c.loop-left.spans.starts.items c.loop-left.spans.sizes.items c.loop-left.invariant.sized in
    omega (arith, low, long)

pub put_under-requires-clause-vertex : goal.put_under-requires-clause-vertex
put_under-requires-clause-vertex c =
    let g : Graph = map (λ v. v.items) c.args.edges.now in
    let left = c.loop-left.left in
    let more : left ≡ (left - 1) + 1 = omega (arith, c.loop-left-test.true) in
    let low = vertex-low g c.requires.forest c.args.order.now c.requires.order (left - 1) left more c.loop-left.invariant.within
    c.loop-left.spans.starts.items c.loop-left.spans.sizes.items c.loop-left.invariant.sized in
    let long = c.loop-left.invariant.sized.starts_long in
    omega (arith, low, long)

pub put_under-requires-clause-size : goal.put_under-requires-clause-size
put_under-requires-clause-size c =
    let g : Graph = map (λ v. v.items) c.args.edges.now in
    let left = c.loop-left.left in
    let more : left ≡ (left - 1) + 1 = omega (arith, c.loop-left-test.true) in
    let low = vertex-low g c.requires.forest c.args.order.now c.requires.order (left - 1) left more c.loop-left.invariant.within
    c.loop-left.spans.starts.items c.loop-left.spans.sizes.items c.loop-left.invariant.sized in
    let long = c.loop-left.invariant.sized.sizes_long in
    omega (arith, low, long)

pub put_under-requires-clause-parent : goal.put_under-requires-clause-parent
put_under-requires-clause-parent c =
    let g : Graph = map (λ v. v.items) c.args.edges.now in
    let up = parent-within g c.requires.forest (get_or c.args.order.now (c.loop-left.left - 1) 0) in
    let is = c.parent.ensures in
    let long = c.loop-left.invariant.sized.sizes_long in
    omega (arith, up, is, long)

pub put_under-requires-clause-room : goal.put_under-requires-clause-room
put_under-requires-clause-room c =
    let g : Graph = map (λ v. v.items) c.args.edges.now in
    let left = c.loop-left.left in
    let more : left ≡ (left - 1) + 1 = omega (arith, c.loop-left-test.true) in
    let room = room-down g c.requires.forest c.args.order.now c.requires.order (left - 1) left more c.loop-left.invariant.within
    c.loop-left.spans.starts.items c.loop-left.spans.sizes.items c.loop-left.invariant.sized c.parent.result c.parent.ensures in
    let long = length-map c.args.edges.now (λ v. v.items) in
    let few = c.requires.few in
    omega (arith, room, long, few)

pub loop-left-preserved : goal.loop-left-preserved
loop-left-preserved c =
    let g : Graph = map (λ v. v.items) c.args.edges.now in
    let left = c.loop-left.left in
    let more : left ≡ (left - 1) + 1 = omega (arith, c.loop-left-test.true) in
    let within = c.loop-left.invariant.within in
    record {
      within = omega (arith, more, within);
      sized = sized-down g c.requires.forest c.args.order.now c.requires.order (left - 1) left more within
          c.loop-left.spans.starts.items c.loop-left.spans.sizes.items c.loop-left.invariant.sized
          c.put_under.new.self.starts.items c.put_under.new.self.sizes.items c.parent.result c.parent.ensures
          c.put_under.ensures.starts c.put_under.ensures.sizes;
    }

pub returns : goal.returns
returns c =
    let g : Graph = map (λ v. v.items) c.args.edges.now in
    let none : c.loop-left.left ≡ 0 = omega (arith, c.loop-left-test.false) in
    subst (λ n. Sized g (take n c.args.order.now) c.loop-left.spans.starts.items c.loop-left.spans.sizes.items) none
    c.loop-left.invariant.sized
