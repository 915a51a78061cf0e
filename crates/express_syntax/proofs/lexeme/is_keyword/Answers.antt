use Rattle.std.proofs.Common.{sym, ap, ◌∙◌}
use denote.Enum.Bare.{same_true, true_same}
use Rattle.express_syntax.specs.contracts.keyword.Keyword.{the_type}
use Rattle.express_syntax.specs.Words.{word_of, keyword}
use Rattle.express_syntax.proofs.KeywordLemmas.{one_keyword}
use Rattle.express_syntax.proofs.lexeme.is_keyword.Goals as goal

pub returns-in-Keyword : goal.returns-in-Keyword
returns-in-Keyword c =
    let found = c.in-Keyword.found in
    let wanted = c.args.wanted in
    let here = ap word_of c.in-Keyword.is in (
      λ t. here ∙ ap keyword (same_true the_type tt found wanted (sym c.eq.ensures ∙ t)),
      λ e. c.eq.ensures ∙ true_same the_type found wanted (one_keyword found wanted (sym here ∙ e)),
    )
