-- Data types as they are read, and the mark after them.
use Rattle.std.specs.Prelude.{◌≡◌, ℕ, Bool, true, false, List, [], ◌∷◌, ◌++◌}
use Rattle.express_lexer.specs.Reading.{Reading}
use Rattle.express_syntax.specs.declared.keyword.Keyword.{Keyword}
use Rattle.express_syntax.specs.declared.keyword.Keyword.TheVariants as keywords
use Rattle.express_syntax.specs.Words.{Word, mark}
use Rattle.express_syntax.specs.Grammar.{depth_limit}
use Rattle.express_syntax.specs.Texts.{Lookahead, LocatedToken}
use Rattle.express_syntax.specs.Schemas.{DataType}
use Rattle.express_syntax.specs.WrittenSchemas.{words_of_data_type}
use Rattle.express_syntax.specs.Profile.{FitsDataType}
use Rattle.express_syntax.specs.steps.Predict.{Symbol, Ending, ending_mark, next, next_mark_or}
use Rattle.express_syntax.specs.steps.Steps.{Passes}

-- a data type with n aggregate types around it, after these words, and the mark after it take these
-- symbols
abbrev pub PassesDataType : List Symbol → List LocatedToken → List Word → ℕ → Ending → DataType → Reading → Reading
    → Type 0
PassesDataType ys before said n end k old new = FitsDataType depth_limit n k
    × Passes ys [] before (said ++ (words_of_data_type k ++ mark (ending_mark end) ∷ [])) old new

-- the rest of a data type after its first word, and the mark after it, take these symbols
abbrev pub PassesBehind : Word → List Symbol → ℕ → Ending → DataType → Reading → Reading → Type 0
PassesBehind w ys n end k old new = FitsDataType depth_limit n k × (ws : List Word)
    × (words_of_data_type k ++ mark (ending_mark end) ∷ [] ≡ w ∷ ws) × Passes ys [] [] ws old new

-- this symbol takes either a width, after which `us` is expected, or the mark after the data type
abbrev pub TakesWidth : Symbol → List Symbol → ℕ → Ending → Type 0
TakesWidth y us n end = (s : Lookahead) → next depth_limit y s ≡ next_mark_or depth_limit n end us s

-- whether the word begins an aggregate type
abbrev pub is_aggregate : Keyword → Bool
is_aggregate keywords.Array = true
is_aggregate keywords.List = true
is_aggregate keywords.Bag = true
is_aggregate keywords.Set = true
is_aggregate _ = false
