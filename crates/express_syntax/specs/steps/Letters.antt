-- The keywords by their first letter.
use Rattle.std.specs.Prelude.{ℕ, List, [], ◌∷◌, filter, ◌==◌}
use Rattle.express_syntax.specs.declared.keyword.Keyword.{Keyword}
use Rattle.express_syntax.specs.Keywords.{keyword_text, every_keyword}

abbrev pub first_of : List ℕ → ℕ
first_of [] = 0
first_of (c ∷ cs) = c

abbrev pub keywords_from : ℕ → List Keyword
keywords_from letter = filter (λ k. first_of (keyword_text k) == letter) every_keyword
