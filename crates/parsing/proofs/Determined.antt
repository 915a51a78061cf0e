-- A lexer's answer is determined by what is read.
use Rattle.std.proofs.Common.{◌≡◌, ℕ, ◌+◌, ◌≤◌, ◌<◌, List, length, take, drop, refl, sym, ap, ◌∙◌, subst, arith, length-drop, Some, None, Ok, Err}
use Rattle.parsing.specs.Reading.{Lexis, Reading, Reaches, Takes, IsAtEnd, IsFaulty, SameAnswer, left}
use Rattle.parsing.specs.LexingLaws.{AnswersAreDetermined, EndIsAnsweredAgain, FaultIsAnsweredAgain, PlacesRise}

-- one token, one fault or none stands at each place
pub record IsUnambiguous {T F : Type 0} (lexis : Lexis T F) : Type 0 where
  pub one_rest : (l a b : List ℕ) → lexis.SkipsLayout l a → lexis.SkipsLayout l b → a ≡ b
  pub skipped : (l a : List ℕ) → lexis.SkipsLayout l a → lexis.SkipsLayout a a
  pub shorter : (l a : List ℕ) → lexis.SkipsLayout l a → length a ≤ length l
  pub some_bytes : (l : List ℕ) (t : T) → lexis.IsFront l t → 0 < length (lexis.bytes_of t)
  pub within : (l : List ℕ) (t : T) → lexis.IsFront l t → length (lexis.bytes_of t) ≤ length l
  pub one_front : (l : List ℕ) (t u : T) → lexis.IsFront l t → lexis.IsFront l u → lexis.bytes_of t ≡ take
      (length (lexis.bytes_of t)) l → lexis.bytes_of u ≡ take (length (lexis.bytes_of u)) l
      → (lexis.bytes_of t ≡ lexis.bytes_of u) × lexis.SameValue t u
  pub front_flawed : (l : List ℕ) (t : T) (place : ℕ) (f : F) → lexis.IsFront l t → lexis.IsFlawed l place f → ⊥
  pub one_flaw : (l : List ℕ) (place : ℕ) (f g : F) → lexis.IsFlawed l place f → lexis.IsFlawed l place g → f ≡ g

at_one : (a b : Reading) → a.text ≡ b.text → a.place ≡ b.place → a ≡ b
at_one a b h g = λ i. record { text = h i; place = g i }

module _ {T F : Type 0} (lexis : Lexis T F) (sure : IsUnambiguous lexis) where
  pub same_place : (old : Reading) (p q : ℕ) → Reaches lexis old p → Reaches lexis old q → p ≡ q
  same_place old p q h g =
      let rest = sure.one_rest (left old) (drop p old.text) (drop q old.text) h.layout g.layout in
      omega (arith, ap length rest, length-drop p old.text, length-drop q old.text, h.within, g.within)

  some_none : (old new : Reading) (t : T) → Takes lexis old t new → Reaches lexis old (length old.text) → ⊥
  some_none old new t h g =
      let place = lexis.place_of t in
      let p = same_place old place (length old.text) h.reaches g in
      omega (
        arith,
        sure.some_bytes (drop place old.text) t h.front,
        sure.within (drop place old.text) t h.front,
        length-drop place old.text,
        p,
      )

  none_err : (old new : Reading) (f : F) → Reaches lexis old (length old.text) → IsFaulty lexis old f new → ⊥
  none_err old new f h g = omega (arith, same_place old g.place (length old.text) g.reaches h, g.more)

  some_err : (old new next : Reading) (t : T) (f : F) → Takes lexis old t new → IsFaulty lexis old f next → ⊥
  some_err old new next t f h g =
      let p = same_place old g.place (lexis.place_of t) g.reaches h.reaches in
      sure.front_flawed (drop (lexis.place_of t) old.text) t (lexis.place_of t) f h.front
      (subst (λ n. lexis.IsFlawed (drop n old.text) n f) p g.flawed)

  faults_same : (old new next : Reading) (f k : F) → IsFaulty lexis old f new → IsFaulty lexis old k next → f ≡ k
  faults_same old new next f k h g =
      let p = same_place old h.place g.place h.reaches g.reaches in
      sure.one_flaw (drop g.place old.text) g.place f k (subst (λ n. lexis.IsFlawed (drop n old.text) n f) p h.flawed)
      g.flawed

  tokens_same : (old new next : Reading) (t u : T) → Takes lexis old t new → Takes lexis old u next
      → SameAnswer lexis (Ok (Some t)) (Ok (Some u)) × (new ≡ next)
  tokens_same old new next t u h g =
      let p = same_place old (lexis.place_of t) (lexis.place_of u) h.reaches g.reaches in
      let back : (n : ℕ) → n ≡ lexis.place_of t → lexis.IsFront (drop n old.text) u
      → lexis.IsFront (drop (lexis.place_of t) old.text) u = λ n e x. subst (λ m. lexis.IsFront (drop m old.text) u)
      e x in
      let one = sure.one_front (drop (lexis.place_of t) old.text) t u h.front (back (lexis.place_of u) (sym p) g.front)
      h.text (g.text ∙ ap (λ n. take (length (lexis.bytes_of u)) (drop n old.text)) (sym p)) in (
        (p, one.0, one.1),
        at_one new next (h.new_text ∙ sym g.new_text) (h.new_place ∙ (λ i. p i + length (one.0 i))
            ∙ sym g.new_place),
      )

  -- what is answered is determined, and how far the text is read then
  pub determined : AnswersAreDetermined lexis
  determined old new next (Ok (Some t)) (Ok (Some u)) h g = tokens_same old new next t u h g
  determined old new next (Ok None) (Ok None) h g =
      (tt, at_one new next (h.new_text ∙ sym g.new_text) (h.new_place ∙ sym g.new_place))
  determined old new next (Err f) (Err k) h g = (faults_same old new next f k h g, h.same ∙ sym g.same)
  determined old new next (Ok (Some t)) (Ok None) h g = absurd (some_none old new t h g.reaches)
  determined old new next (Ok None) (Ok (Some t)) h g = absurd (some_none old next t g h.reaches)
  determined old new next (Ok (Some t)) (Err f) h g = absurd (some_err old new next t f h g)
  determined old new next (Ok None) (Err f) h g = absurd (none_err old next f h.reaches g)
  determined old new next (Err f) (Ok (Some t)) h g = absurd (some_err old next new t f g h)
  determined old new next (Err f) (Ok None) h g = absurd (none_err old new f g.reaches h)

  -- the end is answered again
  pub end_again : EndIsAnsweredAgain lexis
  end_again old new next s h g =
      let length_same : length new.text ≡ length old.text = ap length h.new_text in
      let here : drop (length old.text) old.text ≡ drop (length new.text) new.text =
      (λ i. drop (sym length_same i) (sym h.new_text i)) in
      let there : drop (length new.text) new.text ≡ left new = ap (λ n. drop n new.text)
      (sym (h.new_place ∙ sym length_same)) in
      let rest = drop (length old.text) old.text in
      let none : lexis.SkipsLayout rest rest = sure.skipped (left old) rest h.reaches.layout in
      let last : IsAtEnd lexis new new = record {
        reaches = record {
          within = omega arith;
          layout = subst (λ l. lexis.SkipsLayout l (drop (length new.text) new.text)) there
              (subst (λ l. lexis.SkipsLayout l l) here none);
        };
        new_text = refl;
        new_place = h.new_place ∙ sym length_same;
      } in
      determined new new next (Ok None) s last g

  -- a fault is answered again
  pub fault_again : FaultIsAnsweredAgain lexis
  fault_again old new next f s h g =
      let here : IsFaulty lexis old f old = record {
        place = h.place;
        reaches = h.reaches;
        more = h.more;
        flawed = h.flawed;
        same = refl;
      } in
      let again : IsFaulty lexis new f new = subst (λ r. IsFaulty lexis r f r) (sym h.same) here in
      determined new new next (Err f) s again g

  -- places rise
  pub places_rise : PlacesRise lexis
  places_rise old new t within h =
      let place = lexis.place_of t in (
        omega (
          arith,
          sure.shorter (left old) (drop place old.text) h.reaches.layout,
          length-drop old.place old.text,
          length-drop place old.text,
          h.reaches.within,
          within,
        ),
        omega (arith, sure.some_bytes (drop place old.text) t h.front, h.new_place),
      )
