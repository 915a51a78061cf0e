use Rattle.std.proofs.Common.{◌≡◌, ◌<◌, ◌*◌, ◌^◌, arith, pos, neg_ℤ}
use Rattle.std.specs.declared.cmp.Ordering.TheVariants.{Less, Greater}
use Rattle.std.specs.Cmp.{int_cmp_is}
use Rattle.std.proofs.lemmas.Int.{ints}
use Rattle.step_literals.specs.Decimals.{finest}
use Rattle.step_literals.specs.steps.Digits.{magnitude_of}
use Rattle.step_literals.proofs.UnitLemmas.{units_by_cut, below_is_some, order_above, order_below, less_by_sign, reversed, times_above, times_below, tens_some}
use Rattle.step_literals.proofs.literal.Decimal.compare_whole.Goals as goal

pub returns-in-false-false : goal.returns-in-false-false
returns-in-false-false c =
    let d = c.digits-digits in
    let n : c.args.whole ≡ pos c.unsigned_abs-magnitude.result = omega (
      arith,
      ints,
      c.in-false-false.is-1,
      c.unsigned_abs-magnitude.ensures.value,
    ) in
    order_above _ _ _ _ _ _ _ (units_by_cut d.result c.args.self.now.text.now d.ensures.digits d.ensures.shift
    d.ensures.sign) (times_above _ _ _ c.in-false-false.is-1 n) c.in-false-false.is-0 c.in-false-false.is-1
    c.compare_whole_magnitude-in-false-false.ensures

pub returns-in-true-true : goal.returns-in-true-true
returns-in-true-true c =
    let d = c.digits-digits in
    let n : c.args.whole ≡ neg_ℤ (pos c.unsigned_abs-magnitude.result) = omega (
      arith,
      ints,
      c.in-true-true.is-1,
      c.unsigned_abs-magnitude.ensures.value,
    ) in
    order_below _ _ _ _ _ _ _ (units_by_cut d.result c.args.self.now.text.now d.ensures.digits d.ensures.shift
    d.ensures.sign) (times_below _ _ _ c.in-true-true.is-1 n) c.in-true-true.is-0 c.in-true-true.is-1
    (reversed c.compare_whole_magnitude.result _ (magnitude_of d.result) (c.unsigned_abs-magnitude.result * 10 ^ finest)
    c.compare_whole_magnitude.ensures c.reverse.ensures)

pub returns-in-true-false : goal.returns-in-true-false
returns-in-true-false c =
    let d = c.digits-digits in
    let n : c.args.whole ≡ pos c.unsigned_abs-magnitude.result = omega (
      arith,
      ints,
      c.in-true-false.is-1,
      c.unsigned_abs-magnitude.ensures.value,
    ) in
    int_cmp_is _ _ Less (less_by_sign _ _ _ _ _ _ (units_by_cut d.result c.args.self.now.text.now d.ensures.digits
    d.ensures.shift d.ensures.sign) (times_above _ _ _ c.in-true-false.is-1 n) c.in-true-false.is-0 c.in-true-false.is-1
    (below_is_some d.result c.in-true-false.is-0))

pub returns-in-false-true : goal.returns-in-false-true
returns-in-false-true c =
    let d = c.digits-digits in
    let n : c.args.whole ≡ neg_ℤ (pos c.unsigned_abs-magnitude.result) = omega (
      arith,
      ints,
      c.in-false-true.is-1,
      c.unsigned_abs-magnitude.ensures.value,
    ) in
    let some : 0 < c.unsigned_abs-magnitude.result * 10 ^ finest = tens_some _ finest (omega (
      arith,
      ints,
      c.in-false-true.is-1,
      c.unsigned_abs-magnitude.ensures.value,
    )) in
    int_cmp_is _ _ Greater (less_by_sign _ _ _ _ _ _ (times_below _ _ _ c.in-false-true.is-1 n)
    (units_by_cut d.result c.args.self.now.text.now d.ensures.digits d.ensures.shift d.ensures.sign)
    c.in-false-true.is-1 c.in-false-true.is-0 some)
