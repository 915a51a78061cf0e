use Rattle.std.proofs.Common.{arith, ◌≡◌, ◌∙◌, ◌-◌, sym, ap, to_z}
use Rattle.std.specs.Int.{w128}
use Rattle.step_literals.specs.Decimals.{signed}
use Rattle.step_literals.specs.steps.DigitStrings.{top, front_value}
use Rattle.step_literals.specs.steps.Digits.{digits_of}
use Rattle.step_literals.proofs.UnitLemmas.{long_is_none, fine_is_none, whole_units, whole_small, negated, not_negated, whole_told}
use Rattle.step_literals.proofs.literal.decimals.Digits.whole.Goals as goal
use Rattle.step_literals.proofs.literal.decimals.Digits.whole.Goals.{then-self, else-self, then-len-gt-LONGEST_WHOLE-via-then-len-gt-LONGEST_WHOLE, then-len-gt-LONGEST_WHOLE-via-else-len-gt-LONGEST_WHOLE+then-end-len}

pub returns-then-len-gt-LONGEST_WHOLE : goal.returns-then-len-gt-LONGEST_WHOLE
returns-then-len-gt-LONGEST_WHOLE c =
    let d = c.args.self.now in
    let len : c.saturating_sub-len.result ≡ top (digits_of d) d.shift - 1000400 = omega arith in
    elim c.then-len-gt-LONGEST_WHOLE.branch [
      | then-len-gt-LONGEST_WHOLE-via-then-len-gt-LONGEST_WHOLE w ↦ long_is_none d _ len (omega arith)
      | then-len-gt-LONGEST_WHOLE-via-else-len-gt-LONGEST_WHOLE+then-end-len w ↦ fine_is_none d _ len (omega arith)
    ]

pub returns : goal.returns
returns c =
    let d = c.args.self.now in
    let len : c.saturating_sub-len.result ≡ top (digits_of d) d.shift - 1000400 = omega arith in
    let small = whole_small d _ len (omega arith) in
    let z : to_z w128 c.if-self.try_from-bits ≡ signed d.below_zero (front_value c.saturating_sub-len.result
    (digits_of d)) =
    elim c.if-self.branch [
      | then-self w ↦ negated _ _ _ _ c.from-magnitude.ensures c.front_value.ensures small w.try_from-is
          ∙ ap (λ b. signed b (front_value c.saturating_sub-len.result (digits_of d))) (sym w.if-self.true)
      | else-self w ↦ not_negated _ _ _ _ c.from-magnitude.ensures c.front_value.ensures small w.try_from-is
          ∙ ap (λ b. signed b (front_value c.saturating_sub-len.result (digits_of d))) (sym w.if-self.false)
    ] in
    whole_told _ d.below_zero _ _ _ _ (whole_units d _ len (omega arith)) z c.try_from.ensures c.ok.ensures.value
