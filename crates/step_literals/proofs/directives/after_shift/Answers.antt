use Rattle.std.proofs.Common.{◌∷◌, ◌∙◌, ap}
use Rattle.step_literals.proofs.PieceLemmas.{option_weaker, shift_quote, shift_single}
use Rattle.step_literals.specs.Strings.{clean}
use Rattle.step_literals.proofs.directives.after_shift.Goals as goal

pub returns-in-39 : goal.returns-in-39
returns-in-39 c =
    let e = c.in_ok-byte.ensures.first ∙ ap (λ b. b ∷ clean c.in_ok-byte.after.now) c.in-39.is in
    option_weaker c.strip.result c.strip.ensures (λ h. shift_single c.args.bytes.now c.in_ok-byte.after.now e h)
    (λ after h. shift_quote e c.in_ok-byte.ensures.rest h)
