use Rattle.std.proofs.Common.{◌≡◌, drop}
use Rattle.step_literals.specs.Words.{upper}
use Rattle.express_syntax.specs.Keywords.{keyword_among}
use Rattle.express_syntax.proofs.keyword.among.Given as goal

-- what is left decides
abbrev pub invariant-loop-keyword : goal.invariant-loop-keyword
invariant-loop-keyword l = keyword_among (drop l.keyword-index l.keywords) (upper l.text) ≡ keyword_among l.keywords
    (upper l.text)
