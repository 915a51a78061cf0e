use Rattle.std.proofs.Common.{sym, ap, ◌∙◌}
use Rattle.std.specs.Option.{option_copied}
use Rattle.step_literals.specs.Words.{upper}
use Rattle.express_syntax.specs.Keywords.{keyword_among, keyword_at}
use Rattle.express_syntax.specs.steps.Letters.{keywords_from}
use Rattle.express_syntax.proofs.KeywordLemmas.{by_first}
use Rattle.express_syntax.proofs.keyword.Keyword.of.Goals as goal

pub returns-in-Some : goal.returns-in-Some
returns-in-Some c =
    let text = c.spelling-text.result.now in
    let first = ap option_copied (sym c.in-Some.is) ∙ c.first.ensures.value in
    let letter = c.beginning_with.ensures ∙ ap keywords_from c.to_ascii_uppercase.ensures.value in
    c.among.ensures ∙ ap (λ ks. keyword_among ks (upper text)) letter ∙ by_first text c.in-Some.first.now first
    ∙ ap (λ r. keyword_at (upper r.now)) c.spelling-text.ensures
