use Rattle.std.proofs.Common.{◌≡◌, length, ◌∙◌, ap, arith}
use Rattle.std.specs.Str.{valid_up_to}
use Rattle.step_literals.proofs.characters.utf8_front.Goals as goal

pub returns-in-Ok-from_utf8-clause-longest : goal.returns-in-Ok-from_utf8-clause-longest
returns-in-Ok-from_utf8-clause-longest c = λ m h le u.
    let len : length c.in-Ok-from_utf8.text.now ≡ valid_up_to c.in-Err.error =
    ap length c.in-Ok-from_utf8.ensures.cases.0 ∙ c.split_at.ensures.front_len ∙ c.valid_up_to.ensures in
    c.in-Err.ensures.cases.1.longest m (omega (arith, len, h)) u
