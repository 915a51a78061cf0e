-- What a token means inside skipped declarations.
use Rattle.std.specs.Prelude.{ℕ, Bool, false, List, [], ◌∷◌, Option, None, Some}
use Rattle.std.specs.Str.{bytes_eq}
use Rattle.express_syntax.specs.Words.{name}
use Rattle.express_syntax.specs.Texts.{Lookahead, token}
use Rattle.express_syntax.specs.steps.Predict.{Symbol, Routine}

-- whether the token is this name
abbrev pub is_name : List ℕ → Lookahead → Bool
is_name n (token (name m)) = bytes_eq m n
is_name n _ = false

-- what is still expected of a function or procedure with this number of others open; `None` if it
-- has ended
abbrev pub still_open : Option ℕ → List Symbol
still_open None = []
still_open (Some n) = Routine n ∷ []
