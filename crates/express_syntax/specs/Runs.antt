-- Runs of tokens, for parts that the grammar has no tree for, and the tokens of skipped
-- declarations.
use Rattle.std.specs.Prelude.{◌≡◌, ℕ, ◌+◌, ◌<◌, Bool, true, false, not, List, [], ◌∷◌, ◌++◌, codes, ◌⊎◌}
use Rattle.express_lexer.specs.declared.marks.Mark.TheVariants as marks
use Rattle.express_syntax.specs.Words.{Word, name, mark}

pub data Bracket : Type 0 where
  parenthesis : Bracket
  square : Bracket
  brace : Bracket

abbrev pub opening : Bracket → Word
opening parenthesis = mark marks.Open
opening square = mark marks.OpenBracket
opening brace = mark marks.OpenBrace

abbrev pub closing : Bracket → Word
closing parenthesis = mark marks.Close
closing square = mark marks.CloseBracket
closing brace = mark marks.CloseBrace

-- words, and words in brackets
pub data Run : Type 0 where
  ended : Run
  word : Word → Run → Run
  bracketed : Bracket → Run → Run → Run
  deriving IsSet as Run-derived

abbrev pub words_of_run : Run → List Word
words_of_run ended = []
words_of_run (word w r) = w ∷ words_of_run r
words_of_run (bracketed b inner r) = opening b ∷ (words_of_run inner ++ closing b ∷ words_of_run r)

-- whether the word opens or closes a bracket
abbrev pub is_bracket : Word → Bool
is_bracket (mark marks.Open) = true
is_bracket (mark marks.Close) = true
is_bracket (mark marks.OpenBracket) = true
is_bracket (mark marks.CloseBracket) = true
is_bracket (mark marks.OpenBrace) = true
is_bracket (mark marks.CloseBrace) = true
is_bracket _ = false

-- whether the word is no bracket
abbrev pub inside : Word → Bool
inside w = not (is_bracket w)

-- With n brackets and aggregate types open around it, a run opens no more than `levels`, and `may`
-- passes each word that is in none of its brackets.
abbrev pub FitsRun : ℕ → (Word → Bool) → ℕ → Run → Type 0
FitsRun levels may n ended = Unit {0}
FitsRun levels may n (word w r) = (inside w ≡ true) × (may w ≡ true) × FitsRun levels may n r
FitsRun levels may n (bracketed b inner r) = (n < levels) × FitsRun levels inside (n + 1) inner × FitsRun levels may n r

-- at least one word
abbrev pub IsSome : Run → Type 0
IsSome ended = ⊥
IsSome _ = Unit {0}

-- a rule ends at its semicolon
abbrev pub in_rule : Word → Bool
in_rule (mark marks.Semicolon) = false
in_rule _ = true

-- a lower bound ends at its colon
abbrev pub in_lower : Word → Bool
in_lower (mark marks.Colon) = false
in_lower _ = true

-- an upper bound, a width and a supertype expression end at the bracket that closes them
abbrev pub in_brackets : Word → Bool
in_brackets w = true

abbrev pub BeginsRoutine : Word → Type 0
BeginsRoutine w = (w ≡ name (codes "FUNCTION")) ⊎ (w ≡ name (codes "PROCEDURE"))

abbrev pub EndsRoutine : Word → Type 0
EndsRoutine w = (w ≡ name (codes "END_FUNCTION")) ⊎ (w ≡ name (codes "END_PROCEDURE"))

-- the words after the name of a function or procedure; functions and procedures inside it nest (ISO
-- 10303-11, 9.5)
pub data Routine : Type 0 where
  ending : Word → Routine
  further : Word → Routine → Routine
  nested : Word → Routine → Routine → Routine
  deriving IsSet as Routine-derived

abbrev pub words_of_routine : Routine → List Word
words_of_routine (ending w) = w ∷ []
words_of_routine (further w r) = w ∷ words_of_routine r
words_of_routine (nested w inner r) = w ∷ (words_of_routine inner ++ words_of_routine r)

abbrev pub FitsRoutine : Routine → Type 0
FitsRoutine (ending w) = EndsRoutine w
FitsRoutine (further w r) = (BeginsRoutine w → ⊥) × (EndsRoutine w → ⊥) × FitsRoutine r
FitsRoutine (nested w inner r) = BeginsRoutine w × FitsRoutine inner × FitsRoutine r

-- whether there is at least one word
abbrev pub has_some : List Word → Bool
has_some [] = false
has_some (w ∷ ws) = true
