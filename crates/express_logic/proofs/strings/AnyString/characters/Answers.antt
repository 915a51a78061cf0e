use Rattle.std.proofs.Common.{sym, ap, ◌∙◌}
use Rattle.step_literals.specs.Strings.{content_of}
use Rattle.express_lexer.specs.DoubledApostrophes.{undoubled}
use Rattle.express_logic.specs.Views.{text_of}
use Rattle.express_logic.proofs.Spelt.{simple_is, encoded_is}
use Rattle.express_logic.proofs.strings.AnyString.characters.Goals as goal

pub returns-in-Simple : goal.returns-in-Simple
returns-in-Simple c =
    let t = c.in-Simple.string.text.now in
    c.characters.ensures (undoubled (content_of t)) (simple_is t c.in-Simple.string.spelled)
    ∙ ap text_of (sym c.in-Simple.is)

pub returns-in-Encoded : goal.returns-in-Encoded
returns-in-Encoded c =
    let t = c.in-Encoded.string.text.now in
    c.characters-in-Encoded.ensures (content_of t) (encoded_is t c.in-Encoded.string.spelled)
    ∙ ap text_of (sym c.in-Encoded.is)
