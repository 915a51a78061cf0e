use Rattle.std.proofs.Common.{◌∙◌, sym, ap, length}
use Rattle.step_literals.proofs.PieceLemmas.{option_weaker}
use Rattle.step_literals.proofs.CharacterLemmas.{first_none, first_some}
use Rattle.step_literals.proofs.characters.first_character.Goals as goal

pub returns : goal.returns
returns c =
    let bytes = c.args.bytes.now in
    let front = c.utf8_front.result.now in
    let text = c.chars.ensures.rest in
    option_weaker c.next.result c.next.ensures.steps.0 (λ h. first_none bytes front c.utf8_front.ensures.longest
    (sym (ap length text) ∙ h.0))
    (λ x h. first_some bytes front _ x c.utf8_front.ensures.front c.utf8_front.utf8 (sym text ∙ h))
