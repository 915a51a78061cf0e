-- What a token, a fault or the end of the text means for what was to come.
use Rattle.std.proofs.Common.{◌≡◌, ℕ, true, false, List, [], ◌∷◌, Ok, Err, refl, ap, ◌∙◌}
use Rattle.std.proofs.lemmas.Bool.{false≢true}
use Rattle.step_lexer.specs.declared.token.Mark.{Mark}
use Rattle.step_lexer.specs.declared.token.Mark.TheVariants.{Open, Close, Comma, Semicolon, Equals, Dollar, Asterisk}
use Rattle.step_lexer.specs.declared.token.Sort.TheVariants as sorts
use Rattle.step_literals.specs.declared.fault.TextFault as lexis
use Rattle.step_lexer.specs.Reading.{Reading, Takes, IsAtEnd, IsFaulty}
use Rattle.step_lexer.specs.declared.token.Token.{Token}
use Rattle.step_structures.specs.declared.fault.FaultKind.TheVariants as kinds
use Rattle.step_structures.specs.declared.fault.TextFault.{TextFault}
use Rattle.step_structures.specs.declared.fault.TextFault.TheVariants as faults
use Rattle.step_structures.specs.Words.{mark, keyword, Lookahead, token, flawed, end_of_text, located, located_fault, located_end, word_of, shows_fault, shows_end}
use Rattle.step_structures.specs.Trees.{this, says, Meets}
use Rattle.step_structures.specs.Fits.{the_rules}
use Rattle.step_structures.specs.steps.Predict.{Symbol, Just, Say, EndOfText, refused, is_mark, is_word, table}
use Rattle.step_records.specs.steps.Steps.{StopsIn, Passes}
use Rattle.step_structures.proofs.Meeting.{meets_is}
use Rattle.step_structures.proofs.Passing.{next_mark}
use Rattle.step_structures.proofs.Sound.{same_mark}
use Rattle.step_structures.proofs.FaultKinds.{odd_refused}
use Rattle.step_records.proofs.Taking.{passes_token, stops_shown, stops_token}

at_end : (y : Symbol) → (y ≡ EndOfText → ⊥) → table y end_of_text ≡ Err kinds.Expected
at_end EndOfText h = absurd (h refl)
at_end _ h = refl

-- the end of the text stops all but what ends it
pub stops_end : (place : ℕ) (old new : Reading) → IsAtEnd old new → place ≡ new.place → (y : Symbol)
    → (y ≡ EndOfText → ⊥) → StopsIn (faults.Fault kinds.Expected place) (y ∷ []) [] old
stops_end place old new h e y not_over = stops_shown (faults.Fault kinds.Expected place) kinds.Expected y
    (located_end old) old new (shows_end h refl) (at_end y not_over) (ap (λ p. faults.Fault kinds.Expected p)
    (e ∙ h.new_place))

-- a fault of the lexer stops all
pub stops_flaw : (f : lexis.TextFault) (old new : Reading) → IsFaulty old f new → (y : Symbol)
    → StopsIn (faults.Fault (kinds.Token f.flaw) f.place) (y ∷ []) [] old
stops_flaw f old new h y = stops_shown (faults.Fault (kinds.Token f.flaw) f.place) (kinds.Token f.flaw) y
    (located_fault f) old new (shows_fault f h refl) (odd_refused y (flawed f.flaw) tt) refl

pub mark_met : (m : Mark) (s : Lookahead) → is_mark m s ≡ true → s ≡ token (mark m)
mark_met m (token (mark k)) e = ap (λ x. token (mark x)) (same_mark m k e)
mark_met m _ e = absurd (false≢true e)

mark_itself : (m : Mark) → is_mark m (token (mark m)) ≡ true
mark_itself Open = refl
mark_itself Close = refl
mark_itself Comma = refl
mark_itself Semicolon = refl
mark_itself Equals = refl
mark_itself Dollar = refl
mark_itself Asterisk = refl

pub mark_shown : (t : Token) (m : Mark) → t.sort ≡ sorts.Mark m → is_mark m (located t).lookahead ≡ true
mark_shown t m e = ap (λ s. is_mark m (token (word_of s t.text.now))) e ∙ mark_itself m

pub meets_mark : (m : Mark) (s : Lookahead) → is_mark m s ≡ true → Meets s (this (mark m))
meets_mark m s e = meets_is (mark m) s (mark_met m s e)

pub mark_refused : (m : Mark) (s : Lookahead) → is_mark m s ≡ false → table (Just m) s ≡ Err (refused s)
mark_refused m s e = rw e refl

pub word_met : (word : List ℕ) (s : Lookahead) → is_word word s ≡ true → Meets s (says word)
word_met word (token (keyword text)) e = e
word_met word _ e = absurd (false≢true e)

word_next : (word : List ℕ) (s : Lookahead) → is_word word s ≡ true → table (Say word) s ≡ Ok []
word_next word (token (keyword text)) e = rw e refl
word_next word _ e = absurd (false≢true e)

pub word_refused : (word : List ℕ) (s : Lookahead) → is_word word s ≡ false → table (Say word) s ≡ Err (refused s)
word_refused word (token (keyword text)) e = rw e refl
word_refused word _ e = refl

-- a mark that stands there
pub passes_mark : (m : Mark) (t : Token) (old new : Reading) → Takes old t new → is_mark m (located t).lookahead ≡ true
    → Passes (Just m ∷ []) [] [] (this (mark m) ∷ []) old new
passes_mark m t old new h e =
    let s = (located t).lookahead in
    passes_token (Just m) [] (this (mark m)) t old new h (meets_mark m s e) (ap (table (Just m)) (mark_met m s e)
    ∙ next_mark the_rules m)

pub passes_word : (word : List ℕ) (t : Token) (old new : Reading) → Takes old t new
    → is_word word (located t).lookahead ≡ true → Passes (Say word ∷ []) [] [] (says word ∷ []) old new
passes_word word t old new h e =
    let s = (located t).lookahead in
    passes_token (Say word) [] (says word) t old new h (word_met word s e) (word_next word s e)

-- a token that can't stand there is refused
pub stops_refused : (e : TextFault) (y : Symbol) (t : Token) (old new : Reading) → Takes old t new
    → table y (located t).lookahead ≡ Err (refused (located t).lookahead)
    → e ≡ faults.Fault (refused (located t).lookahead) t.place → StopsIn e (y ∷ []) [] old
stops_refused e y t old new h n q = stops_token e (refused (located t).lookahead) y t old new h n q
