use Rattle.std.proofs.Common.{◌≡◌, ◌+◌, ◌++◌, ◌∙◌, ap, sym, subst, arith}
use Rattle.std.proofs.lemmas.Result.{on_ok_weaker}
use Rattle.step_values.specs.steps.Slots.{node_value}
use Rattle.step_values.proofs.Walks.{after}
use Rattle.step_values.proofs.Weights.{weight_of, lighter}
use Rattle.rule_plans.specs.steps.Coded.{coded_itself, coded_values, coded_each, coded_inside}
use Rattle.rule_plans.specs.steps.Seeking.{Adds}
use Rattle.rule_plans.proofs.Adding.{adds-both, starts, next, ends}
use Rattle.rule_plans.proofs.Walking.{whole-value, each-next, each-ends}
use Rattle.rule_plans.proofs.typed_values.+walk.Goals as goal

pub add_values-returns : goal.add_values-returns
add_values-returns t c =
    let x = c.args.seeker.now in
    let q = c.args.sought in
    let b = c.args.base.now in
    let v = c.args.value in
    let same : node_value c.node-node.result ≡ v = c.node-node.ensures in
    on_ok_weaker c.add_inside.result
    (λ h. subst (λ ds. Adds ds c.args.found.now c.add_inside.new.found)
    (ap (λ w. coded_itself x q.declared b v ++ coded_inside x q b w) same ∙ whole-value x q b v)
    (adds-both (coded_itself x q.declared b v) (coded_inside x q b (node_value c.node-node.result))
    c.args.found.now c.add_itself.new.found c.add_inside.new.found c.in_ok-add_itself.ensures h))
    c.add_inside.ensures

pub add_inside-returns-in-Typed : goal.add_inside-returns-in-Typed
add_inside-returns-in-Typed t c =
    let x = c.args.seeker.now in
    let q = c.args.sought in
    let b = c.args.base.now in
    on_ok_weaker c.add_values.result
    (subst (λ ds. Adds ds c.args.found.now c.add_values.new.found)
    ((λ i. coded_values x (c.by_name-within.ensures i) (c.of_name.ensures i) c.in-Typed.inner)
    ∙ ap (λ n. coded_inside x q b (node_value n)) (sym c.in-Typed.is)))
    c.add_values.ensures

pub add_inside-returns-in-Sequence : goal.add_inside-returns-in-Sequence
add_inside-returns-in-Sequence t c =
    let x = c.args.seeker.now in
    on_ok_weaker c.add_elements.result
    (subst (λ ds. Adds ds c.args.found.now c.add_elements.new.found)
    (ap (λ n. coded_inside x c.args.sought c.args.base.now (node_value n)) (sym c.in-Sequence.is)))
    c.add_elements.ensures

pub add_inside-returns-in-Bag : goal.add_inside-returns-in-Bag
add_inside-returns-in-Bag t c =
    let x = c.args.seeker.now in
    on_ok_weaker c.add_elements-in-Bag.result
    (subst (λ ds. Adds ds c.args.found.now c.add_elements-in-Bag.new.found)
    (ap (λ n. coded_inside x c.args.sought c.args.base.now (node_value n)) (sym c.in-Bag.is)))
    c.add_elements-in-Bag.ensures

pub add_elements-returns : goal.add_elements-returns
add_elements-returns t c =
    let x = c.args.seeker.now in
    on_ok_weaker c.add_each.result
    (subst (λ ds. Adds ds c.args.found.now c.add_each.new.found)
    (λ i. coded_each x (c.elements_of-within.ensures i) (c.of_elements.ensures i) c.args.values.now))
    c.add_each.ensures

pub add_each-add_values-requires : goal.add_each-add_values-requires
add_each-add_values-requires t c =
    let vs = c.args.values.now in
    let less = lighter vs c.loop-i.i c.at.result c.at.ensures in
    let all : weight_of vs ≡ t = c.decreases in
    omega (arith, less, all)

pub add_each-loop-i-init : goal.add_each-loop-i-init
add_each-loop-i-init t c =
    starts (coded_each c.args.seeker.now c.args.sought c.args.base.now c.args.values.now) c.args.found.now

pub add_each-loop-i-preserved : goal.add_each-loop-i-preserved
add_each-loop-i-preserved t c =
    let x = c.args.seeker.now in
    let vs = c.args.values.now in
    let i = c.loop-i.i in
    next (coded_each x c.args.sought c.args.base.now vs) (coded_each x c.args.sought c.args.base.now (after i vs))
    (coded_values x c.args.sought c.args.base.now c.at.result)
    (coded_each x c.args.sought c.args.base.now (after (i + 1) vs)) _ _ _
    (each-next x c.args.sought c.args.base.now vs i c.at.result c.at.ensures) c.loop-i.invariant c.in_ok-add_values.ensures

pub add_each-returns : goal.add_each-returns
add_each-returns t c =
    let x = c.args.seeker.now in
    let vs = c.args.values.now in
    let i = c.loop-i.i in
    let past = c.loop-i-test.false in
    let end = c.len-i-end.ensures in
    ends (coded_each x c.args.sought c.args.base.now vs) (coded_each x c.args.sought c.args.base.now (after i vs)) _ _
    (each-ends x c.args.sought c.args.base.now vs i (omega (arith, past, end))) c.loop-i.invariant
