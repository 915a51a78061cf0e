-- The words that occur in a passage of a text.
use Rattle.std.specs.Prelude.{◌≡◌, ℕ, ◌≤◌, true, List, [], ◌∷◌, length}
use Rattle.express_lexer.specs.declared.token.Token.{Token}
use Rattle.express_lexer.specs.Reading.{Reading, Takes}
use Rattle.express_syntax.specs.Words.{Word, word_of_sort}
use Rattle.express_syntax.specs.Runs.{Run, ended, word, bracketed, words_of_run, inside, Routine, words_of_routine, FitsRoutine}

abbrev pub at_place : List ℕ → ℕ → Reading
at_place text place = record { text = text; place = place }

-- These words follow one byte offset of a text and end at another; layout may precede each of them.
abbrev pub StandsBehind : List ℕ → ℕ → List Word → ℕ → Type 0
StandsBehind text from [] to = (from ≡ to) × (to ≤ length text)
StandsBehind text from (w ∷ ws) to = (from ≤ length text) × (t : Token) × (next : ℕ) × Takes (at_place text from) t
    (at_place text next) × (word_of_sort t.sort ≡ w) × StandsBehind text next ws to

-- the next token after this offset, with or without layout before it, begins at `from`
abbrev pub BeginsBehind : List ℕ → ℕ → ℕ → Type 0
BeginsBehind text place from = (t : Token) × (next : Reading) × Takes (at_place text place) t next × (t.place ≡ from)

-- the next token after this offset begins exactly there, with no layout before it
abbrev pub BeginsAt : List ℕ → ℕ → Type 0
BeginsAt text from = BeginsBehind text from from

-- These words follow this offset, and the first of them begins at `from`. If there are no words,
-- `from` is the offset.
abbrev pub BeginsNext : List ℕ → ℕ → List Word → ℕ → Type 0
BeginsNext text place [] from = from ≡ place
BeginsNext text place (w ∷ ws) from = BeginsBehind text place from

-- These words occur in a text, from the first byte of the first word to the last byte of the last.
abbrev pub Stands : List ℕ → ℕ → List Word → ℕ → Type 0
Stands text from [] to = StandsBehind text from [] to
Stands text from (w ∷ ws) to = StandsBehind text from (w ∷ ws) to × BeginsAt text from

-- a run whose words outside of bracketed parts are no brackets
abbrev pub IsRun : Run → Type 0
IsRun ended = Unit {0}
IsRun (word w r) = (inside w ≡ true) × IsRun r
IsRun (bracketed b inner r) = IsRun inner × IsRun r

-- the words that occur in a text between two byte offsets
abbrev pub WordsBetween : List ℕ → ℕ → ℕ → Type 0
WordsBetween text from to = (ws : List Word) × ∥ Stands text from ws to ∥₁

-- the run that has these words
abbrev pub RunOf : List Word → Type 0
RunOf ws = (r : Run) × ∥ IsRun r × (words_of_run r ≡ ws) ∥₁

-- the routine that has these words
abbrev pub RoutineOf : List Word → Type 0
RoutineOf ws = (r : Routine) × ∥ FitsRoutine r × (words_of_routine r ≡ ws) ∥₁
