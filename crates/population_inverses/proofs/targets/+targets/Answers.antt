use Rattle.std.proofs.Common.{◌≡◌, arith}
use Rattle.step_values.proofs.Weights.{weight_of, lighter}
use Rattle.population_inverses.proofs.Walking.{next, ends}
use Rattle.population_inverses.proofs.targets.+targets.Goals as goal

pub add_targets_of_each-add_targets-requires : goal.add_targets_of_each-add_targets-requires
add_targets_of_each-add_targets-requires t c =
    let less = lighter c.args.values.now c.loop-i.i c.at.result c.at.ensures in
    let all : weight_of c.args.values.now ≡ t = c.decreases in
    omega (arith, less, all)

pub add_targets_of_each-loop-i-preserved : goal.add_targets_of_each-loop-i-preserved
add_targets_of_each-loop-i-preserved t c =
    next c.args.values.now c.loop-i.i c.loop-i.names.items _ c.loop-i.invariant c.at.result _ c.at.ensures
    c.in_ok-add_targets.ensures

pub add_targets_of_each-returns : goal.add_targets_of_each-returns
add_targets_of_each-returns t c =
    let past = c.loop-i-test.false in
    let end = c.len-i-end.ensures in
    ends c.args.values.now c.loop-i.i c.loop-i.names.items _ c.loop-i.invariant (omega (arith, past, end))
