-- What was read stands in the text.
use Rattle.std.proofs.Common.{◌≡◌, ℕ, ◌+◌, ◌≤◌, Bool, List, [], ◌∷◌, ◌++◌, length, map, ◌⊎◌, inl, inr, if◌then◌else◌, refl, sym, ap, subst, arith, length-drop}
use Rattle.parsing.specs.Tables.{lookaheads}
use Rattle.express_lexer.specs.declared.token.Token.{Token}
use Rattle.express_lexer.specs.Reading.{Reading, Takes}
use Rattle.express_syntax.specs.Words.{Word}
use Rattle.express_syntax.specs.Texts.{Lookahead, token, LocatedToken, Shows, ShowsAll}
use Rattle.express_syntax.specs.steps.Steps.{Reads}
use Rattle.express_syntax.specs.declared.passage.Passage.{Passage}
use Rattle.express_syntax.specs.declared.passage.Run as kept
use Rattle.express_syntax.specs.declared.passage.Routine as kept_routine
use Rattle.express_syntax.specs.Runs.{Run, ended, word, bracketed, words_of_run, inside, FitsRun, Routine, words_of_routine, FitsRoutine}
use Rattle.express_syntax.specs.Runs.{has_some}
use Rattle.express_syntax.specs.Passages.{StandsBehind, Stands, at_place, IsRun}
use Rattle.express_syntax.specs.steps.PassageLemmas.{stands_within, words_prop, run_prop, routine_prop}
use Rattle.express_syntax.proofs.Looking.{shown_token, reads_shown}

-- a token ends within the text
takes_within : (old new : Reading) (t : Token) → Takes old t new → new.place ≤ length old.text
takes_within old new t h = omega (arith, h.new_place, h.front.within, length-drop t.place old.text, h.reaches.within)

head_is : {v w : Lookahead} {vs ws : List Lookahead} → v ∷ vs ≡ w ∷ ws → v ≡ w
head_is e = cc

tail_is : {v w : Lookahead} {vs ws : List Lookahead} → v ∷ vs ≡ w ∷ ws → vs ≡ ws
tail_is e = cc

shown_stands : (text : List ℕ) (from : ℕ) (s : List LocatedToken) (ws : List Word) (new : Reading) → from ≤ length text
    → ShowsAll (at_place text from) s new → lookaheads s ≡ map token ws → StandsBehind text from ws new.place
shown_stands text from [] [] new le h e = let p : from ≡ new.place = ap (λ (r : Reading). r.place) h in
    (p, omega (arith, le, p))
shown_stands text from [] (w ∷ ws) new le h e = absurd cc
shown_stands text from (x ∷ s) [] new le h e = absurd cc
shown_stands text from (x ∷ s) (w ∷ ws) new le h e =
    let t = shown_token w x (at_place text from) h.0 h.1 (head_is e) in
    let here : h.0 ≡ at_place text h.0.place = λ i. record { text = t.1.new_text i; place = h.0.place } in
    let P : Reading → Type 0 = λ r. Takes (at_place text from) t.0 r in
    let Q : Reading → Type 0 = λ r. ShowsAll r s new in (
      le,
      t.0,
      h.0.place,
      subst P here t.1,
      t.2,
      shown_stands text h.0.place s ws new
          (takes_within (at_place text from) h.0 t.0 t.1) (subst Q here h.2) (tail_is e),
    )

-- words that were read stand behind one place, and end at the other
pub reads_stands : (old new : Reading) (ws : List Word) → old.place ≤ length old.text → Reads old ws new
    → StandsBehind old.text old.place ws new.place
reads_stands old new ws le h = shown_stands old.text old.place h.0 ws new le h.1 h.2

behind_join : (text : List ℕ) (from : ℕ) (u : List Word) (mid : ℕ) (v : List Word) (to : ℕ)
    → StandsBehind text from u mid → StandsBehind text mid v to → StandsBehind text from (u ++ v) to
behind_join text from [] mid v to h g = let P : ℕ → Type 0 = λ p. StandsBehind text p v to in subst P (sym h.0) g
behind_join text from (w ∷ u) mid v to h g = (h.0, h.1, h.2, h.3, h.4, behind_join text h.2 u mid v to h.5 g)

-- words stand behind others, of which there are some
pub stands_join : (text : List ℕ) (from : ℕ) (w : Word) (u : List Word) (mid : ℕ) (v : List Word) (to : ℕ)
    → Stands text from (w ∷ u) mid → StandsBehind text mid v to → Stands text from (w ∷ (u ++ v)) to
stands_join text from w u mid v to h g = (behind_join text from (w ∷ u) mid v to h.0 g, h.1)

-- a token behind layout is taken from its own place too, with no layout before it
pub takes_own : (old new : Reading) (t : Token) → Takes old t new → Takes (at_place old.text t.place) t
    (at_place old.text new.place)
takes_own old new t h = record {
  reaches = record {
    within = h.reaches.within;
    layout = record {
      blanks = [];
      layout = tt;
      split = refl;
      whole = h.reaches.layout.whole;
    };
  };
  front = h.front;
  text = h.text;
  new_text = refl;
  new_place = h.new_place;
}

-- a token stands from its own place
pub stands_own : (old new : Reading) (s : LocatedToken) (w : Word) → Shows old s new → s.lookahead ≡ token w
    → Stands new.text s.place (w ∷ []) new.place
stands_own old new s w h e =
    let t = shown_token w s old new h e in
    let P : List ℕ → Type 0 = λ x. Stands x t.0.place (w ∷ []) new.place in
    let Q : ℕ → Type 0 = λ p. Stands new.text p (w ∷ []) new.place in
    subst Q (sym t.3) (subst P (sym t.1.new_text) (
      (
        t.1.reaches.within,
        t.0,
        new.place,
        takes_own old new t.0 t.1,
        t.2,
        (refl, takes_within old new t.0 t.1),
      ),
      (t.0, at_place old.text new.place, takes_own old new t.0 t.1, refl),
    ))

-- the text stays as it is
pub shown_text : (old new : Reading) (s : LocatedToken) (w : Word) → Shows old s new → s.lookahead ≡ token w
    → new.text ≡ old.text
shown_text old new s w h e = let t = shown_token w s old new h e in t.1.new_text

-- a token behind words that stand, or from its own place
pub stands_more : (ws us : List Word) (w : Word) (from to begins : ℕ) (last here : Reading) (s : LocatedToken)
    → (ws ≡ []) ⊎ ((to ≡ last.place) × Stands last.text from ws to) → Shows last s here → s.lookahead ≡ token w
    → us ≡ ws ++ w ∷ [] → begins ≡ (if has_some ws then from else s.place) → Stands here.text begins us here.place
stands_more [] us w from to begins last here s st h is e f =
    let P : ℕ → Type 0 = λ p. Stands here.text p us here.place in
    let Q : List Word → Type 0 = λ l. Stands here.text s.place l here.place in
    subst P (sym f) (subst Q (sym e) (stands_own last here s w h is))
stands_more (v ∷ vs) us w from to begins last here s (inl none) h is e f = absurd cc
stands_more (v ∷ vs) us w from to begins last here s (inr st) h is e f =
    let within = stands_within last.text from (v ∷ vs) to st.1 in
    let next : StandsBehind last.text last.place (w ∷ []) here.place = reads_stands last here (w ∷ [])
    (omega (arith, within.1, st.0)) (reads_shown w s last here h is) in
    let O : ℕ → Type 0 = λ p. StandsBehind last.text p (w ∷ []) here.place in
    let all = stands_join last.text from v vs to (w ∷ []) here.place st.1 (subst O (sym st.0) next) in
    let P : ℕ → Type 0 = λ p. Stands here.text p us here.place in
    let Q : List Word → Type 0 = λ l. Stands here.text from l here.place in
    let R : List ℕ → Type 0 = λ x. Stands x from ((v ∷ vs) ++ w ∷ []) here.place in
    subst P (sym f) (subst Q (sym e) (subst R (sym (shown_text last here s w h is)) all))

-- a run that fits is one
pub fits_is_run : (levels : ℕ) (may : Word → Bool) (n : ℕ) (r : Run) → FitsRun levels may n r → IsRun r
fits_is_run levels may n ended h = tt
fits_is_run levels may n (word w r) h = (h.0, fits_is_run levels may n r h.2)
fits_is_run levels may n (bracketed b inner r) h = (
  fits_is_run levels inside (n + 1) inner h.1,
  fits_is_run levels may
      n r h.2,
)

-- the words that a passage keeps are those that stand there
pub passage_words : (p : Passage) (ws : List Word) → Stands p.text.now p.from ws p.to → p.words.0 ≡ ws
passage_words p ws h = ap (λ x. x.0) (words_prop p.text.now p.from p.to p.words (ws, ∣ h ∣₁))

-- the run that is kept is the one of the passage's words
pub run_is : (k : kept.Run) (r : Run) → IsRun r → words_of_run r ≡ k.passage.words.0 → k.run.0 ≡ r
run_is k r h e = ap (λ x. x.0) (run_prop k.passage.words.0 k.run (r, ∣ (h, e) ∣₁))

-- the routine that is kept is the one of the passage's words
pub routine_is : (k : kept_routine.Routine) (r : Routine) → FitsRoutine r → words_of_routine r ≡ k.passage.words.0
    → k.routine.0 ≡ r
routine_is k r h e = ap (λ x. x.0) (routine_prop k.passage.words.0 k.routine (r, ∣ (h, e) ∣₁))
