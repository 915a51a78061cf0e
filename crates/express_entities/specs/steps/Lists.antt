-- Lists of attributes with commas between them, after the first attribute. The next token is
-- already taken.
use Rattle.std.specs.Prelude.{◌≡◌, List, [], ◌∷◌, ◌++◌, map, Ok}
use Rattle.express_lexer.specs.declared.marks.Mark.TheVariants as marks
use Rattle.express_lexer.specs.Reading.{Reading}
use Rattle.express_syntax.specs.Words.{Word, mark}
use Rattle.express_syntax.specs.Grammar.{depth_limit}
use Rattle.express_syntax.specs.declared.fault.SyntaxFault.{SyntaxFault}
use Rattle.express_syntax.specs.Schemas.{Attribute}
use Rattle.express_syntax.specs.WrittenSchemas.{with_commas, words_of_attribute}
use Rattle.express_syntax.specs.Profile.{IsFilled}
use Rattle.express_syntax.specs.Texts.{token, LocatedToken}
use Rattle.express_syntax.specs.steps.Predict.{Symbol, AnAttribute, Uniques, next}
use Rattle.express_syntax.specs.steps.Steps.{Passes, StopsIn}

-- after a comma, an attribute is expected, then this symbol again
abbrev pub IsListed : Symbol → Type 0
IsListed y = next depth_limit y (token (mark marks.Comma)) ≡ Ok (AnAttribute ∷ y ∷ [])

-- If y is expected and the token `first` is taken, reading these words leads to the state in which
-- y is expected and `last` is taken.
pub record Continues (y : Symbol) (first : LocatedToken) (old : Reading) (ws : List Word) (last : LocatedToken)
    (new : Reading) : Type 0 where
  pub passes : (zs : List Symbol) (us : List Word) (end : Reading) → Passes (y ∷ []) zs (last ∷ []) us new end
      → Passes (y ∷ []) zs (first ∷ []) (ws ++ us) old end
  pub stops : (e : SyntaxFault) → StopsIn e (y ∷ []) (last ∷ []) new → StopsIn e (y ∷ []) (first ∷ []) old

-- the words after the first attribute
pub record ListsOn (y : Symbol) (a : Attribute) (first : LocatedToken) (old : Reading) (list : List Attribute)
    (last : LocatedToken) (new : Reading) : Type 0 where
  pub filled : IsFilled list
  pub further : List Word
  pub words : with_commas (map words_of_attribute list) ≡ words_of_attribute a ++ further
  pub goes_on : Continues y first old further last new

-- the words after the first attribute of a uniqueness rule, and its semicolon
pub record UniqueOn (a : Attribute) (first : LocatedToken) (old : Reading) (list : List Attribute)
    (new : Reading) : Type 0 where
  pub filled : IsFilled list
  pub further : List Word
  pub words : with_commas (map words_of_attribute list) ++ mark marks.Semicolon ∷ [] ≡ words_of_attribute a ++ further
  pub passes : Passes (Uniques ∷ []) [] (first ∷ []) further old new
