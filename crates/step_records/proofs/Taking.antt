-- What is read of an exchange structure, one part behind another.
use Rattle.std.proofs.Common.{◌≡◌, ◌≤◌, List, [], ◌∷◌, ◌++◌, length, Ok, Err, refl, sym, ap, subst, arith, length-drop}
use Rattle.parsing.proofs.Shown.{shows_falls}
use Rattle.parsing.proofs.Taking as taking
use Rattle.parsing.proofs.Taking.{Joins}
use Rattle.parsing.proofs.Turning as turning
use Rattle.step_lexer.specs.Reading.{Reading, Takes, left}
use Rattle.step_lexer.specs.declared.token.Token.{Token}
use Rattle.step_lexer.proofs.ReadingLemmas.{takes_less}
use Rattle.step_structures.specs.declared.fault.FaultKind.{FaultKind}
use Rattle.step_structures.specs.declared.fault.TextFault.{TextFault}
use Rattle.step_structures.specs.declared.fault.TextFault.TheVariants as faults
use Rattle.step_structures.specs.Words.{LocatedToken, located, Shows, shows_token, shows_fault, shows_end, ShowsAll}
use Rattle.step_structures.specs.Trees.{Item, Meets, MeetAll}
use Rattle.step_structures.specs.Texts.{Reads}
use Rattle.step_structures.specs.steps.Predict.{Symbol, table}
use Rattle.step_records.specs.steps.Steps.{fault_at, StopsIn, Passes}
use Rattle.step_structures.proofs.Meeting.{meet_join}

joins : Joins MeetAll
joins u v i j h k = meet_join u v i j h k

-- what was read
pub reads_of : {ys zs : List Symbol} {items : List Item} {old new : Reading} → Passes ys zs [] items old new
    → Reads old items new
reads_of h = (h.shown, h.shown_all, h.words)

pub passes_here : (ys : List Symbol) (a : Reading) → Passes ys ys [] [] a a
passes_here ys a = taking.passes_here table Shows MeetAll tt ys a

pub passes_as : {ys zs : List Symbol} {before : List LocatedToken} {items : List Item} {old new : Reading}
    (others : List Item) → items ≡ others → Passes ys zs before items old new → Passes ys zs before others old new
passes_as others e h = taking.passes_as table Shows MeetAll others e h

pub passes_join : {ys zs xs : List Symbol} {before : List LocatedToken} {i j : List Item} {a b c : Reading}
    → Passes ys zs before i a b → Passes zs xs [] j b c → Passes ys xs before (i ++ j) a c
passes_join h g = taking.passes_join table Shows MeetAll joins h g

pub passes_more : {ys zs : List Symbol} {before : List LocatedToken} {items : List Item} {a b : Reading}
    (xs : List Symbol) → Passes ys zs before items a b → Passes (ys ++ xs) (zs ++ xs) before items a b
passes_more xs h = taking.passes_more table Shows MeetAll xs h

pub passes_then : {ys xs zs : List Symbol} {before : List LocatedToken} {i j : List Item} {a b c : Reading}
    → Passes ys [] before i a b → Passes xs zs [] j b c → Passes (ys ++ xs) zs before (i ++ j) a c
passes_then h g = taking.passes_then table Shows MeetAll joins h g

-- a token
pub passes_token : (y : Symbol) (zs : List Symbol) (i : Item) (t : Token) (old new : Reading) → Takes old t new
    → Meets (located t).lookahead i → table y (located t).lookahead ≡ Ok zs → Passes (y ∷ []) zs [] (i ∷ []) old new
passes_token y zs i t old new h m e = taking.passes_token table Shows MeetAll y zs i (located t) old new
    (shows_token t h refl) (m, tt) e

-- a token that is read already
pub passes_taken : (y : Symbol) (zs : List Symbol) (i : Item) (t : Token) (here : Reading)
    → Meets (located t).lookahead i → table y (located t).lookahead ≡ Ok zs
    → Passes (y ∷ []) zs (located t ∷ []) (i ∷ []) here here
passes_taken y zs i t here m e = taking.passes_taken table Shows MeetAll y zs i (located t) here (m, tt) e

-- a token that is read already may as well be read first
pub passes_first : {ys zs : List Symbol} {items : List Item} {b c : Reading} (t : Token) (a : Reading) → Takes a t b
    → Passes ys zs (located t ∷ []) items b c → Passes ys zs [] items a c
passes_first t a h g = taking.passes_first table Shows MeetAll (located t) a (shows_token t h refl) g

-- what stops behind what passes stops it all
pub stops_behind : {ys : List Symbol} {before : List LocatedToken} {items : List Item} {old mid : Reading}
    (e : TextFault) (zs xs : List Symbol) → Passes ys (zs ++ xs) before items old mid → StopsIn e zs [] mid
    → StopsIn e ys before old
stops_behind e zs xs h g = taking.stops_behind table Shows MeetAll (fault_at e) zs xs h g

-- the same where the stop has its first token taken already
pub stops_behind_taken : {ys : List Symbol} {before : List LocatedToken} {items : List Item} {old mid new : Reading}
    (e : TextFault) (zs xs : List Symbol) (t : Token) → Passes ys (zs ++ xs) before items old mid → Takes mid t new
    → StopsIn e zs (located t ∷ []) new → StopsIn e ys before old
stops_behind_taken e zs xs t h k g = taking.stops_behind_taken table Shows MeetAll (fault_at e) zs xs (located t) h
    (shows_token t k refl) g

-- what stops what is first stops all
pub stops_all : (e : TextFault) (ys xs : List Symbol) (before : List LocatedToken) (old : Reading)
    → StopsIn e ys before old → StopsIn e (ys ++ xs) before old
stops_all e ys xs before old h = turning.stops_more table Shows (fault_at e) ys xs before old h

-- what can't stand there
pub stops_shown : (e : TextFault) (k : FaultKind) (y : Symbol) (s : LocatedToken) (old new : Reading)
    → Shows old s new → table y s.lookahead ≡ Err k → e ≡ faults.Fault k s.place → StopsIn e (y ∷ []) [] old
stops_shown e k y s old new h n q = let P : TextFault → Type 0 = λ x. StopsIn x (y ∷ []) [] old in
    subst P (sym q) (turning.stops_token table Shows k y s old new h n)

pub stops_token : (e : TextFault) (k : FaultKind) (y : Symbol) (t : Token) (old new : Reading) → Takes old t new
    → table y (located t).lookahead ≡ Err k → e ≡ faults.Fault k t.place → StopsIn e (y ∷ []) [] old
stops_token e k y t old new h n q = stops_shown e k y (located t) old new (shows_token t h refl) n q

-- a token that can't come next, and is read already
pub stops_taken : (e : TextFault) (k : FaultKind) (y : Symbol) (t : Token) (r : Reading)
    → table y (located t).lookahead ≡ Err k → e ≡ faults.Fault k t.place → StopsIn e (y ∷ []) (located t ∷ []) r
stops_taken e k y t r n q = let P : TextFault → Type 0 = λ x. StopsIn x (y ∷ []) (located t ∷ []) r in
    subst P (sym q) (turning.stops_taken table Shows k y (located t) r n)

-- reading leaves no more of the text
shows_less : (old : Reading) (s : LocatedToken) (new : Reading) → Shows old s new → length (left new) ≤ length
    (left old)
shows_less old s new (shows_token t h e) = omega (arith, takes_less old new t h)
shows_less old s new (shows_fault f h e) = rw (h.same) (omega arith)
shows_less old s new (shows_end h e) = omega (arith, length-drop new.place new.text, h.new_place, ap length h.new_text)

pub shown_within : (s : List LocatedToken) (old new : Reading) → ShowsAll old s new → length (left new) ≤ length
    (left old)
shown_within s old new h = shows_falls Shows (λ (r : Reading). length (left r)) shows_less old s new h

pub passes_within : {ys zs : List Symbol} {before : List LocatedToken} {items : List Item} {old new : Reading}
    → Passes ys zs before items old new → length (left new) ≤ length (left old)
passes_within {ys} {zs} {before} {items} {old} {new} h = shown_within h.shown old new h.shown_all
