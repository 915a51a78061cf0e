-- The places of a header.
use Rattle.std.proofs.Common.{◌≡◌, ℕ, ◌≤◌, Bool, true, false, cond, ◌&&◌, nat_eq, List, [], ◌∷◌, length, refl, sym, ap, ◌∙◌, subst, arith, length-drop}
use Rattle.std.specs.List.{starts_with}
use Rattle.parsing.specs.Tables.{lookaheads}
use Rattle.step_lexer.specs.Reading.{Reading, start, start_of}
use Rattle.step_lexer.proofs.Determined.{same_place, places_rise}
use Rattle.step_structures.specs.Words.{LocatedToken, Shows, shows_token, shows_fault, shows_end, ShowsAll, begins}
use Rattle.step_structures.specs.Trees.{Record, this, Meets, MeetAll, items_of_header}
use Rattle.step_exchange.specs.steps.Steps.{TakesHeader}

pub record Bounds (old new : Reading) : Type 0 where
  pub text : new.text ≡ old.text
  pub rises : old.place ≤ new.place
  pub within : new.place ≤ length new.text

shows_bounds : (old : Reading) (s : LocatedToken) (new : Reading) → Shows old s new → old.place ≤ length old.text
    → Bounds old new
shows_bounds old s new (shows_token t h e) w =
    let r = places_rise old new t w h in
    record {
      text = h.new_text;
      rises = omega (arith, r.0, r.1);
      within = omega (
        arith,
        h.new_place,
        ap length h.new_text,
        h.front.within,
        length-drop t.place old.text,
        h.reaches.within,
      );
    }
shows_bounds old s new (shows_fault f h e) w = let P : Reading → Type 0 = λ x. Bounds old x in subst P (sym h.same)
    (record { text = refl; rises = omega arith; within = w })
shows_bounds old s new (shows_end h e) w = record {
  text = h.new_text;
  rises = omega (arith, w, h.new_place);
  within = omega (arith, h.new_place, ap length h.new_text);
}

pub bounds : (old : Reading) (s : List LocatedToken) (new : Reading) → ShowsAll old s new → old.place ≤ length old.text
    → Bounds old new
bounds old [] new h w = let P : Reading → Type 0 = λ x. Bounds old x in subst P h (record {
  text = refl;
  rises = omega arith;
  within = w;
})
bounds old (t ∷ s) new h w =
    let a = shows_bounds old t h.0 h.1 w in
    let b = bounds h.0 s new h.2 a.within in
    record { text = b.text ∙ a.text; rises = omega (arith, a.rises, b.rises); within = b.within }

start_within : (text : List ℕ) → start_of text ≤ length text
start_within [] = omega arith
start_within (a ∷ []) = one (nat_eq 239 a)
  where
    one : (b : Bool) → cond (b && false) 3 0 ≤ 1
    one true = omega arith
    one false = omega arith
start_within (a ∷ b ∷ []) = two (nat_eq 239 a) (nat_eq 187 b)
  where
    two : (b c : Bool) → cond (b && (c && false)) 3 0 ≤ 2
    two true true = omega arith
    two true false = omega arith
    two false c = omega arith
start_within (a ∷ b ∷ c ∷ r) = more (starts_with nat_eq (a ∷ b ∷ c ∷ r) (239 ∷ 187 ∷ 191 ∷ []))
  where
    more : (d : Bool) → cond d 3 0 ≤ length (a ∷ b ∷ c ∷ r)
    more true = omega arith
    more false = omega arith

pub header_bounds : (text : List ℕ) (first : ℕ) (header : List Record) (mid : Reading) → TakesHeader (start text) first
    header mid → (first ≤ mid.place) × (mid.place ≤ length text)
header_bounds text first header mid h = (
  by h.passes.shown h.passes.shown_all h.passes.words,
  omega (arith, all.within, ap length all.text),
)
  where
    all : Bounds (start text) mid
    all = bounds (start text) h.passes.shown mid h.passes.shown_all (start_within text)

    at_first : (t : LocatedToken) (n : Reading) → Shows (start text) t n → Meets t.lookahead (this begins)
        → first ≤ n.place
    at_first t n (shows_token u g e) m = let r = places_rise (start text) n u (start_within text) g in
        omega (arith, r.1, same_place (start text) u.place first g.reaches h.first)
    at_first t n (shows_fault f g e) m = absurd (let Q : LocatedToken → Type 0 = λ x. Meets x.lookahead (this begins) in
        subst Q e m)
    at_first t n (shows_end g e) m = absurd (let Q : LocatedToken → Type 0 = λ x. Meets x.lookahead (this begins) in
        subst Q e m)

    by : (s : List LocatedToken) → ShowsAll (start text) s mid → MeetAll (lookaheads s) (items_of_header header)
        → first ≤ mid.place
    by [] k b = absurd b
    by (t ∷ s) k b = omega (
      arith,
      at_first t k.0 k.1 b.0,
      (bounds k.0 s mid k.2 (shows_bounds (start text) t k.0 k.1 (start_within text)).within).rises,
    )
