use Rattle.std.proofs.Common.{sym, ◌∙◌, arith, ◌≡◌, max, length}
use Rattle.std.specs.declared.cmp.Ordering.TheVariants.{Equal}
use Rattle.std.specs.Cmp.{nat_cmp_is}
use Rattle.step_literals.specs.steps.Digits.{digits_of, magnitude_of}
use Rattle.step_literals.specs.steps.MagnitudeLemmas.{less_by_top, less_by_digit, same_by_digits}
use Rattle.step_literals.proofs.DecimalDigits.{front_next, order_told}
use Rattle.step_literals.proofs.literal.decimals.Digits.compare_magnitude.Goals as goal

pub returns-then-top-other_top : goal.returns-then-top-other_top
returns-then-top-other_top c =
    let a = c.args.self.now in let b = c.args.other.now in
    order_told _ _ _ (magnitude_of a) (magnitude_of b) c.cmp.ensures c.if-top-other_top.true
    (λ h. less_by_top (digits_of a) (digits_of b) a.shift b.shift a.significant b.significant (omega (arith, h)))
    (λ h. less_by_top (digits_of b) (digits_of a) b.shift a.shift b.significant a.significant (omega (arith, h)))

pub returns-then-digit-other_digit : goal.returns-then-digit-other_digit
returns-then-digit-other_digit c =
    let a = c.args.self.now in let b = c.args.other.now in
    order_told _ _ _ (magnitude_of a) (magnitude_of b) c.cmp-then-digit-other_digit.ensures c.if-digit-other_digit.true
    (λ h. less_by_digit (digits_of a) (digits_of b) a.shift b.shift c.loop-i.i a.significant (omega arith) (omega arith)
    c.loop-i.invariant (omega (arith, h)))
    (λ h. less_by_digit (digits_of b) (digits_of a) b.shift a.shift c.loop-i.i b.significant (omega arith) (omega arith)
    (sym c.loop-i.invariant) (omega (arith, h)))

pub loop-i-preserved : goal.loop-i-preserved
loop-i-preserved c = front_next (digits_of c.args.self.now) (digits_of c.args.other.now) c.loop-i.i c.loop-i.invariant
    (sym c.digit-digit.ensures ∙ c.if-digit-other_digit.false ∙ c.digit-other_digit.ensures)

pub returns : goal.returns
returns c =
    let a = c.args.self.now in let b = c.args.other.now in
    nat_cmp_is _ _ Equal (same_by_digits (digits_of a) (digits_of b) a.shift b.shift (omega arith)
    (let e : c.loop-i.i ≡ max (length (digits_of a)) (length (digits_of b)) = omega arith in
    rw e at c.loop-i.invariant))
