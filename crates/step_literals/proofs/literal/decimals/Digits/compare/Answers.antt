use Rattle.std.proofs.Common.{refl}
use Rattle.std.specs.declared.cmp.Ordering.TheVariants.{Less, Greater}
use Rattle.std.specs.Cmp.{int_cmp_is}
use Rattle.step_literals.proofs.UnitLemmas.{below_is_some, order_above, order_below, less_by_sign}
use Rattle.step_literals.proofs.literal.decimals.Digits.compare.Goals as goal

pub returns-in-false-false : goal.returns-in-false-false
returns-in-false-false c = order_above _ _ _ _ _ _ _ refl refl c.in-false-false.is-0 c.in-false-false.is-1
    c.compare_magnitude-in-false-false.ensures

pub returns-in-true-true : goal.returns-in-true-true
returns-in-true-true c = order_below _ _ _ _ _ _ _ refl refl c.in-true-true.is-0 c.in-true-true.is-1
    c.compare_magnitude.ensures

pub returns-in-true-false : goal.returns-in-true-false
returns-in-true-false c = int_cmp_is _ _ Less (less_by_sign _ _ _ _ _ _ refl refl c.in-true-false.is-0
    c.in-true-false.is-1 (below_is_some c.args.self.now c.in-true-false.is-0))

pub returns-in-false-true : goal.returns-in-false-true
returns-in-false-true c = int_cmp_is _ _ Greater (less_by_sign _ _ _ _ _ _ refl refl c.in-false-true.is-1
    c.in-false-true.is-0 (below_is_some c.args.other.now c.in-false-true.is-1))
