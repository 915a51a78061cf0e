-- Laws of what a lexer returns.
use Rattle.std.specs.Prelude.{◌≡◌, ◌≤◌, ◌<◌, length, Result, Ok, Err, Option, None}
use Rattle.parsing.specs.Reading.{Lexis, Reading, Answers, Takes, SameAnswer}

-- The text and how far it is read determine what is returned, and how far the text is read then.
abbrev pub AnswersAreDetermined : {T F : Type 0} → Lexis T F → Type 0
AnswersAreDetermined {T} {F} lexis =
    (old new next : Reading) (r s : Result (Option T) F) → Answers lexis old r new → Answers lexis old s next
    → SameAnswer lexis r s × (new ≡ next)

-- However far a text is read, there is something to return.
abbrev pub EachReadingHasAnAnswer : {T F : Type 0} → Lexis T F → Type 0
EachReadingHasAnAnswer {T} {F} lexis = (old : Reading) → old.place ≤ length old.text → (r : Result (Option T) F)
    × (new : Reading) × Answers lexis old r new

-- after the end, the end is returned again
abbrev pub EndIsAnsweredAgain : {T F : Type 0} → Lexis T F → Type 0
EndIsAnsweredAgain {T} {F} lexis =
    (old new next : Reading) (s : Result (Option T) F) → Answers lexis old (Ok None) new → Answers lexis new s next
    → SameAnswer lexis (Ok None) s × (new ≡ next)

-- after a fault, the same fault is returned again
abbrev pub FaultIsAnsweredAgain : {T F : Type 0} → Lexis T F → Type 0
FaultIsAnsweredAgain {T} {F} lexis =
    (old new next : Reading) (f : F) (s : Result (Option T) F) → Answers lexis old (Err f) new
    → Answers lexis new s next → SameAnswer lexis (Err f) s × (new ≡ next)

-- the byte offsets of tokens rise
abbrev pub PlacesRise : {T F : Type 0} → Lexis T F → Type 0
PlacesRise {T} {F} lexis =
    (old new : Reading) (t : T) → old.place ≤ length old.text → Takes lexis old t new → (old.place ≤ lexis.place_of t)
    × (lexis.place_of t < new.place)
