use Rattle.std.proofs.Common.{◌∙◌, ◌∷◌, sym, ap}
use Rattle.std.specs.Str.{chars}
use Rattle.std.proofs.lemmas.Str.{chars_past_char}
use Rattle.express_lexer.proofs.literal.characters.next_character.Goals as goal

pub returns : goal.returns
returns c =
    chars_past_char c.args.text.now _ c.in_ok-character.character c.utf8.text
    (sym c.chars-characters.ensures.rest ∙ c.in_ok-character.ensures.steps.0)
    ∙ ap (λ l. c.in_ok-character.character ∷ chars l) (sym c.as_str.ensures)
