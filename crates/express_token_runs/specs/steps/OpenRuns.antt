-- Runs of tokens that are being read: their open brackets, and their tokens so far.
use Rattle.std.specs.Prelude.{◌≡◌, ℕ, ◌+◌, ◌<◌, Bool, true, false, List, [], ◌∷◌, ◌++◌, ◌⊎◌, Result, Ok, Err, if◌then◌else◌}
use Rattle.express_lexer.specs.declared.marks.Mark.{Mark}
use Rattle.express_lexer.specs.declared.marks.Mark.TheVariants as marks
use Rattle.express_lexer.specs.Reading.{Reading}
use Rattle.express_syntax.specs.Words.{Word, word_of, words_of, mark}
use Rattle.express_syntax.specs.Grammar.{depth_limit}
use Rattle.express_token_runs.specs.declared.runs.Ends.{Ends}
use Rattle.express_token_runs.specs.declared.runs.Ends.TheVariants as ends
use Rattle.express_token_runs.specs.declared.runs.Buffer.{Buffer}
use Rattle.express_token_runs.specs.declared.runs.Bracket as code
use Rattle.express_token_runs.specs.declared.runs.Bracket.TheVariants as brackets
use Rattle.express_token_runs.specs.declared.tokens.Item.{Item}
use Rattle.express_syntax.specs.declared.fault.SyntaxFault.{SyntaxFault}
use Rattle.express_syntax.specs.declared.fault.SyntaxFault.TheVariants as faults
use Rattle.express_syntax.specs.Runs.{Bracket, parenthesis, square, brace, opening, Run, words_of_run, inside, FitsRun, IsSome, in_brackets}
use Rattle.express_syntax.specs.Runs.{has_some}
use Rattle.express_syntax.specs.Runs as runs
use Rattle.express_syntax.specs.steps.Predict.{RunEnd, in_rule, in_lower, in_upper, in_parentheses, Symbol, Running, Next}
use Rattle.express_syntax.specs.Texts.{LocatedToken}
use Rattle.express_syntax.specs.Passages.{Stands}
use Rattle.express_syntax.specs.steps.Steps.{Passes}

abbrev pub part_of : Ends → RunEnd
part_of ends.Rule = in_rule
part_of ends.Lower = in_lower
part_of ends.Upper = in_upper
part_of ends.Parentheses = in_parentheses

abbrev pub bracket_of : code.Bracket → Bracket
bracket_of brackets.Parenthesis = parenthesis
bracket_of brackets.Square = square
bracket_of brackets.Brace = brace

abbrev pub stacked : List code.Bracket → List Bracket → List Bracket
stacked [] inner = inner
stacked (b ∷ bs) inner = stacked bs (bracket_of b ∷ inner)

-- the innermost first
abbrev pub brackets_of : List code.Bracket → List Bracket
brackets_of bs = stacked bs []

-- the words that may occur in none of the run's brackets
abbrev pub may_of : RunEnd → Word → Bool
may_of in_rule = runs.in_rule
may_of in_lower = runs.in_lower
may_of in_upper = in_brackets
may_of in_parentheses = in_brackets

-- the mark that ends it
abbrev pub end_of : RunEnd → Mark
end_of in_rule = marks.Semicolon
end_of in_lower = marks.Colon
end_of in_upper = marks.CloseBracket
end_of in_parentheses = marks.Close

-- the number of brackets open inside these brackets of a run, with n around the run
abbrev pub level : ℕ → List Bracket → ℕ
level n [] = n
level n (b ∷ inner) = level n inner + 1

-- The words so far are those of a run in which these brackets are open, the innermost first.
abbrev pub IsOpenRun : RunEnd → ℕ → List Bracket → List Word → Type 0
IsOpenRun part n [] ws = (r : Run) × FitsRun depth_limit (may_of part) n r × (ws ≡ words_of_run r)
IsOpenRun part n (b ∷ inner) ws = (u : List Word) × (r : Run) × IsOpenRun part n inner u × (level n inner < depth_limit)
    × FitsRun depth_limit inside (level n inner + 1) r × (ws ≡ u ++ opening b ∷ words_of_run r)

-- what is still expected of a run that hasn't ended
abbrev pub going_on : RunEnd → ℕ → List Bracket → Bool → List Symbol
going_on part n inner true = []
going_on part n inner false = Running part n inner true ∷ []

-- The result for one token agrees with the table: whether the run is ended, or a fault at this byte
-- offset.
abbrev pub Agrees : Next → RunEnd → ℕ → List Bracket → ℕ → Result Bool SyntaxFault → Type 0
Agrees t part n inner place (Ok ended) = t ≡ Ok (going_on part n inner ended)
Agrees t part n inner place (Err faults.Memory) = Unit {0}
Agrees t part n inner place (Err (faults.Fault kind p)) = (t ≡ Err kind) × (p ≡ place)

-- The tokens of a buffer begin a run, and extend up to this reading of the text.
pub record IsBegun (part : RunEnd) (n : ℕ) (b : Buffer) (here : Reading) : Type 0 where
  pub run : IsOpenRun part n (brackets_of b.open.items) (words_of b.lexemes.items)
  pub stand : (words_of b.lexemes.items ≡ [])
      ⊎ ((b.to ≡ here.place) × Stands here.text b.from (words_of b.lexemes.items) b.to)

-- one more token, after which the text is read up to `end`
pub record IsPushed (before : Buffer) (i : Item) (end : ℕ) (after : Buffer) : Type 0 where
  pub words : words_of after.lexemes.items ≡ words_of before.lexemes.items ++ word_of i.lexeme ∷ []
  pub brackets : after.open.items ≡ before.open.items
  pub from : after.from ≡ (if has_some (words_of before.lexemes.items) then before.from else i.place)
  pub to : after.to ≡ end

-- the byte offset of a run whose first tokens are in a buffer; `next` is that of the next token
abbrev pub begin_of : Buffer → ℕ → ℕ
begin_of b next = if has_some (words_of b.lexemes.items) then b.from else next

-- what is still expected of a run whose first tokens are in a buffer
abbrev pub more_of : RunEnd → ℕ → Buffer → Symbol
more_of part n b = Running part n (brackets_of b.open.items) (has_some (words_of b.lexemes.items))

-- The buffer's tokens, the token `first`, which is already taken, and further tokens form a run,
-- and the mark that ends it follows.
pub record Gathered (part : RunEnd) (n : ℕ) (before after : Buffer) (first : LocatedToken) (r : Run)
    (old new : Reading) : Type 0 where
  pub further : List Word
  pub words : words_of after.lexemes.items ≡ words_of before.lexemes.items ++ further
  pub run : words_of_run r ≡ words_of after.lexemes.items
  pub fits : FitsRun depth_limit (may_of part) n r
  pub some : IsSome r
  pub passes : Passes (more_of part n before ∷ []) [] (first ∷ []) (further ++ mark (end_of part) ∷ []) old new
