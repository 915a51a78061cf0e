-- Rules and their bodies, as they are read.
use Rattle.std.specs.Prelude.{◌≡◌, List, [], ◌∷◌, ◌++◌}
use Rattle.express_lexer.specs.declared.marks.Mark.TheVariants as marks
use Rattle.express_lexer.specs.Reading.{Reading}
use Rattle.express_syntax.specs.declared.keyword.Keyword.{Keyword}
use Rattle.express_syntax.specs.Words.{Word, words_of, mark}
use Rattle.express_syntax.specs.Grammar.{depth_limit}
use Rattle.express_token_runs.specs.declared.runs.Buffer.{Buffer}
use Rattle.express_syntax.specs.Schemas.{Body, Rule}
use Rattle.express_syntax.specs.WrittenSchemas.{words_of_body, words_of_rule}
use Rattle.express_syntax.specs.Profile.{FitsBody, BeginsRule}
use Rattle.express_token_runs.specs.steps.OpenRuns.{more_of}
use Rattle.express_syntax.specs.steps.Predict.{in_rule, Rules}
use Rattle.express_syntax.specs.Texts.{LocatedToken}
use Rattle.express_syntax.specs.steps.Steps.{Passes}

-- The buffer's tokens, the token `first`, which is already taken, and further tokens are a body,
-- and its semicolon follows.
pub record BodyRead (before : Buffer) (first : LocatedToken) (b : Body) (old new : Reading) : Type 0 where
  pub further : List Word
  pub fits : FitsBody depth_limit b
  pub words : words_of_body b ≡ words_of before.lexemes.items ++ further
  pub passes : Passes (more_of in_rule 0 before ∷ []) [] (first ∷ []) (further ++ mark marks.Semicolon ∷ []) old new

-- The token `first`, which is already taken, begins a rule before the word that ends the rules.
pub record RuleRead (end : Keyword) (first : LocatedToken) (r : Rule) (old new : Reading) : Type 0 where
  pub fits : FitsBody depth_limit r.body
  pub begins : BeginsRule end r
  pub passes : Passes (Rules end ∷ []) (Rules end ∷ []) (first ∷ []) (words_of_rule r) old new
