-- Laws of keywords and of expressions.
use Rattle.std.specs.Prelude.{◌≡◌, ℕ, List, Some}
use Rattle.express_syntax.specs.declared.keyword.Keyword.{Keyword}
use Rattle.express_syntax.specs.Keywords.{keyword_text, keyword_at}
use Rattle.express_syntax.specs.Words.{Word}
use Rattle.express_syntax.specs.Trees.{Tree}
use Rattle.express_syntax.specs.Grammar.{IsExpression}

-- A list of words is the spelling of at most one expression, for any numbers of open brackets
-- around it.
abbrev pub ExpressionsAreOneTree : Type 0
ExpressionsAreOneTree = (n m : ℕ) (ws : List Word) (x y : Tree) → IsExpression n ws x → IsExpression m ws y → x ≡ y

-- No two keywords have one spelling: looking up the spelling of a keyword finds that keyword.
abbrev pub KeywordsAreFound : Type 0
KeywordsAreFound = (k : Keyword) → keyword_at (keyword_text k) ≡ Some k

-- A word that is found as a keyword is the spelling of that keyword.
abbrev pub KeywordsAreSpelt : Type 0
KeywordsAreSpelt = (word : List ℕ) (k : Keyword) → keyword_at word ≡ Some k → word ≡ keyword_text k
