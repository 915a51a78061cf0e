use Rattle.std.proofs.Common.{◌≡◌, ◌-◌, ◌≤◌, arith, length}
use Rattle.step_literals.specs.steps.DigitStrings.{top, end_of}
use Rattle.step_literals.specs.steps.Digits.{digits_of}
use Rattle.step_literals.proofs.UnitLemmas.{long_is_greater, fine_is_greater, front_orders}
use Rattle.step_literals.proofs.literal.decimals.Digits.compare_whole_magnitude.Goals as goal
use Rattle.step_literals.proofs.literal.decimals.Digits.compare_whole_magnitude.Goals.{else-front-whole-via-then-front-whole+else-end-len, else-front-whole-via-else-front-whole}

pub returns-then-len-gt-LONGEST_WHOLE : goal.returns-then-len-gt-LONGEST_WHOLE
returns-then-len-gt-LONGEST_WHOLE c =
    let d = c.args.self.now in
    let len : c.saturating_sub-len.result ≡ top (digits_of d) d.shift - 1000400 = omega arith in
    long_is_greater d c.args.whole _ len (omega arith) c.requires

pub returns-then-end-len : goal.returns-then-end-len
returns-then-end-len c =
    let d = c.args.self.now in
    let len : c.saturating_sub-len.result ≡ top (digits_of d) d.shift - 1000400 = omega arith in
    fine_is_greater d c.args.whole _ len _ c.front_value-front.ensures (omega arith) c.if-front-whole.true (omega arith)

pub returns : goal.returns
returns c =
    let d = c.args.self.now in
    let len : c.saturating_sub-len.result ≡ top (digits_of d) d.shift - 1000400 = omega arith in
    let whole : c.front_value-front.result ≡ c.args.whole → end_of (length (digits_of d)) (digits_of d)
    ≤ c.saturating_sub-len.result = λ same. elim c.else-front-whole.branch [
      | else-front-whole-via-then-front-whole+else-end-len w ↦ omega arith
      | else-front-whole-via-else-front-whole w ↦ absurd (w.if-front-whole.false same)
    ] in
    front_orders d c.args.whole _ len _ _ c.front_value-front.ensures (omega arith) whole c.cmp.ensures
