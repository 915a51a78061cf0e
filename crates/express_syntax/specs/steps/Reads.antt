-- The result of a reader of expressions: the tree at the beginning of some words, and the rest.
use Rattle.std.specs.Prelude.{◌≡◌, ℕ, Bool, true, false, List, [], ◌∷◌, ◌++◌}
use Rattle.express_lexer.specs.declared.marks.Mark.TheVariants as marks
use Rattle.express_syntax.specs.declared.keyword.Keyword.TheVariants as keywords
use Rattle.express_syntax.specs.Words.{Word, keyword, mark}
use Rattle.express_syntax.specs.Trees.{Tree, words}
use Rattle.express_syntax.specs.Grammar.{Level, term, simple, expression, FitsLevel}

-- whether the word would continue an expression of this level
abbrev pub goes_on : Level → Word → Bool
goes_on l (mark marks.Dot) = true
goes_on l (mark marks.Backslash) = true
goes_on l (mark marks.OpenBracket) = true
goes_on term (keyword keywords.And) = true
goes_on simple (keyword keywords.And) = true
goes_on simple (keyword keywords.Or) = true
goes_on simple (keyword keywords.Xor) = true
goes_on expression (keyword keywords.And) = true
goes_on expression (keyword keywords.Or) = true
goes_on expression (keyword keywords.Xor) = true
goes_on expression (keyword keywords.In) = true
goes_on expression (mark marks.Equal) = true
goes_on expression (mark marks.NotEqual) = true
goes_on expression (mark marks.Less) = true
goes_on expression (mark marks.Greater) = true
goes_on expression (mark marks.LessOrEqual) = true
goes_on expression (mark marks.GreaterOrEqual) = true
goes_on _ _ = false

-- the token here doesn't continue it
abbrev pub Stops : Level → List Word → Type 0
Stops l [] = Unit {0}
Stops l (w ∷ ws) = goes_on l w ≡ false

-- with n brackets open around it, this whole tree is a prefix of the words, and `rest` follows it
pub record Stands (n : ℕ) (l : Level) (ws : List Word) (x : Tree) (rest : List Word) : Type 0 where
  pub fits : FitsLevel n l x
  pub spelled : ws ≡ words x ++ rest
  pub whole : Stops l rest

-- no tree is a prefix of the words in that way
abbrev pub StandsNone : ℕ → Level → List Word → Type 0
StandsNone n l ws = (x : Tree) (rest : List Word) → Stands n l ws x rest → ⊥
