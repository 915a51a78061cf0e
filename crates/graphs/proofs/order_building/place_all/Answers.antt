use Rattle.std.proofs.Common.{ℕ, ◌<◌, ◌∙◌, List, map, length, sym, subst, arith}
use Rattle.graphs.specs.steps.Placings.{IsPlacing}
use Rattle.graphs.proofs.Placed.{placed-within, placed-few, reversal-long, reversal-within, looked-on, whole-order, extends-length, placing-begins, zero-everywhere}
use Rattle.graphs.proofs.order_building.place_all.Goals as goal

pub bounds-before-vertex : goal.bounds-before-vertex
bounds-before-vertex c =
    let lt = placed-within (λ v. v.items) c.args.edges.now c.loop-at.order.items c.loop-at.marks c.loop-at.passed
    c.loop-at.at c.index.result.now c.loop-at.invariant.placing (omega (arith, c.loop-at-test.true, c.len.ensures))
    c.index.ensures in
    let long = reversal-long (λ v. v.items) c.args.edges.now c.args.before.now c.requires.before in
    omega (arith, lt, long)

pub look_at_each-requires-clause-within : goal.look_at_each-requires-clause-within
look_at_each-requires-clause-within c =
    let lt = placed-within (λ v. v.items) c.args.edges.now c.loop-at.order.items c.loop-at.marks c.loop-at.passed
    c.loop-at.at c.index.result.now c.loop-at.invariant.placing (omega (arith, c.loop-at-test.true, c.len.ensures))
    c.index.ensures in
    let long = reversal-long (λ v. v.items) c.args.edges.now c.args.before.now c.requires.before in
    reversal-within (λ v. v.items) c.args.edges.now c.args.before.now c.index.result.now c.index-before-vertex.result
    c.deref.result.now c.requires.before (omega (arith, lt, long)) c.index-before-vertex.is c.deref.ensures.value

pub loop-at-smaller : goal.loop-at-smaller
loop-at-smaller c =
    let many = placed-few (λ v. v.items) c.args.edges.now c.loop-at.order.items c.loop-at.marks c.loop-at.passed
    c.loop-at.invariant.placing in
    let test = c.loop-at-test.true in
    omega (arith, many, test)

pub loop-at-preserved : goal.loop-at-preserved
loop-at-preserved c =
    let here : c.loop-at.at < length c.loop-at.order.items = omega (arith, c.loop-at-test.true, c.len.ensures) in
    let lt = placed-within (λ v. v.items) c.args.edges.now c.loop-at.order.items c.loop-at.marks c.loop-at.passed
    c.loop-at.at c.index.result.now c.loop-at.invariant.placing here c.index.ensures in
    let long = reversal-long (λ v. v.items) c.args.edges.now c.args.before.now c.requires.before in
    let more = extends-length c.loop-at.order.items c.look_at_each.new.order.items
    c.in_ok-look_at_each.ensures.extends in
    record {
      marks = c.in_ok-look_at_each.ensures.marks ∙ c.loop-at.invariant.marks;
      passed = c.in_ok-look_at_each.ensures.passed ∙ c.loop-at.invariant.passed;
      placing = c.in_ok-look_at_each.ensures.placing;
      awaits = looked-on (λ v. v.items) c.args.edges.now c.args.before.now c.loop-at.order.items
          c.look_at_each.new.order.items c.loop-at.at c.index.result.now c.index-before-vertex.result c.deref.result.now
          c.requires.before (omega (arith, lt, long)) c.index-before-vertex.is c.deref.ensures.value here
          c.index.ensures c.in_ok-look_at_each.ensures.extends c.in_ok-look_at_each.ensures.awaits
          c.loop-at.invariant.awaits;
      within = omega (arith, here, more);
    }

pub returns : goal.returns
returns c =
    let over = c.loop-at-test.false in
    let within = c.loop-at.invariant.within in
    whole-order (λ v. v.items) c.args.edges.now c.loop-at.order.items c.loop-at.at c.requires.graph
    c.loop-at.invariant.placing.ordered (omega (arith, over, within)) c.loop-at.invariant.awaits

pub look_at_all-requires-clause-placing : goal.look_at_all-requires-clause-placing
look_at_all-requires-clause-placing c =
    subst (λ (order : List ℕ). IsPlacing (map (λ v. v.items) c.args.edges.now) order c.args.marks.now c.args.passed.now)
    (sym c.new-order.ensures.items)
    (placing-begins (map (λ v. v.items) c.args.edges.now) c.args.marks.now c.args.passed.now c.requires.clean
    (zero-everywhere c.args.passed.now c.requires.none))
