use Rattle.std.proofs.Common.{◌∙◌, ◌-◌, ap, take, length}
use Rattle.std.specs.List.{list_all}
use Rattle.step_literals.specs.Bytes.{is_hex}
use Rattle.express_lexer.specs.Meanings.{codes_of}
use Rattle.express_lexer.proofs.MeaningLemmas.{content_is}
use Rattle.express_lexer.proofs.CodeLemmas.{digits_are_hex}
use Rattle.express_lexer.proofs.literal.EncodedString.characters.Goals as goal

pub invariant_of-result : goal.invariant_of-result
invariant_of-result c =
    let t = c.args.self.now in
    let cut = c.split_at-2.ensures.front ∙ ap (λ l. take (length l - 1) l) c.split_at.ensures.back in
    record { hex = ap (list_all is_hex) cut ∙ digits_are_hex t.text.now t.spelled }

pub returns : goal.returns
returns c = λ digits e.
    let cut = c.split_at-2.ensures.front ∙ ap (λ l. take (length l - 1) l) c.split_at.ensures.back in
    ap codes_of (cut ∙ content_is 34 34 c.args.self.now.text.now digits e)
