use Rattle.std.proofs.Common.{◌∙◌, ◌-◌, ap, take, length}
use Rattle.step_literals.specs.Tokens.{doubled}
use Rattle.express_lexer.specs.DoubledApostrophes.{undoubled}
use Rattle.express_lexer.specs.Meanings.{characters_of}
use Rattle.express_lexer.proofs.MeaningLemmas.{content_is, undoubled_doubled}
use Rattle.express_lexer.proofs.literal.SimpleString.characters.Goals as goal

pub returns : goal.returns
returns c = λ content e.
    let cut = c.split_at-2.ensures.front ∙ ap (λ l. take (length l - 1) l) c.split_at.ensures.back
    ∙ content_is 39 39 c.args.self.now.text.now (doubled content) e in
    c.of_doubled.ensures ∙ ap (λ l. characters_of (undoubled l)) cut ∙ ap characters_of (undoubled_doubled content)
