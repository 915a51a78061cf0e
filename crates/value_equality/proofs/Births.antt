-- Partitions by rounds, each finer than the one before: the first of each class, and the round at which an index
-- becomes one.
use Rattle.std.proofs.Common.{◌≡◌, ◌≢◌, ◌≤◌, ◌<◌, ℕ, zero, suc, ◌+◌, Bool, cond, eqb-true, eq-eqb, true, false, List, [], ◌∷◌, Some, refl, sym, ◌∙◌, ap, subst, ◌⊎◌, inl, inr, arith}
use Rattle.std.specs.Prelude.{⊤, slice_get, ◌==◌}
use Rattle.std.proofs.lemmas.Bool.{cases_lt, cases_order, cases_eq}
use Rattle.value_equality.proofs.Numbering.{scan, IsLeast}
use Rattle.value_equality.proofs.Unique.{IsBefore}

-- equivalences on the indices below n, which part by rounds, up to the last
pub record ArePartings (n last : ℕ) (R : ℕ → ℕ → ℕ → Bool) : Type 0 where
  pub self : (r i : ℕ) → i < n → R r i i ≡ true
  pub back : (r i j : ℕ) → R r i j ≡ true → R r j i ≡ true
  pub through : (r i j k : ℕ) → R r i j ≡ true → R r j k ≡ true → R r i k ≡ true
  pub falls : (r i j : ℕ) → R (suc r) i j ≡ true → R r i j ≡ true
  pub stays : (r i j : ℕ) → last ≤ r → R r i j ≡ true → R (suc r) i j ≡ true

-- the least number up to i that passes, where i does
chosen : (f : ℕ → Bool) (i : ℕ) → ((j : ℕ) × (j < suc i) × IsLeast f j) ⊎ ((k : ℕ) → k < suc i → f k ≡ false) → ℕ
chosen f i (inl found) = found.0
chosen f i (inr nowhere) = i

chosen_least : (f : ℕ → Bool) (i : ℕ) (s : ((j : ℕ) × (j < suc i) × IsLeast f j) ⊎ ((k : ℕ) → k < suc i → f k ≡ false))
    → f i ≡ true → (chosen f i s ≤ i) × IsLeast f (chosen f i s)
unfolding chosen
chosen_least f i (inl found) h = let l = found.1 in (omega arith, found.2)
chosen_least f i (inr nowhere) h = absurd (let e : f i ≡ false = nowhere i (omega arith) in cc)

pub same_pair : (a b : ℕ × ℕ) → Some a ≡ Some b → a ≡ b
same_pair a b e = cc

module _ (n last : ℕ) (R : ℕ → ℕ → ℕ → Bool) (by : ArePartings n last R) where
  -- the first of the class of i
  pub first : ℕ → ℕ → ℕ
  first r i = chosen (λ j. R r j i) i (scan (λ j. R r j i) (suc i))

  first_least : (r i : ℕ) → i < n → (first r i ≤ i) × IsLeast (λ j. R r j i) (first r i)
  unfolding first
  first_least r i l = chosen_least (λ j. R r j i) i (scan (λ j. R r j i) (suc i)) (by.self r i l)

  pub first_le : (r i : ℕ) → i < n → first r i ≤ i
  first_le r i l = (first_least r i l).0

  pub first_below : (r i : ℕ) → i < n → first r i < n
  first_below r i l = let le = first_le r i l in omega arith

  first_in : (r i : ℕ) → i < n → R r (first r i) i ≡ true
  first_in r i l = (first_least r i l).1.passes

  not_before : (r i j : ℕ) → i < n → j < n → R r i j ≡ true → first r i < first r j → ⊥
  not_before r i j l m h k =
      let yes : R r (first r i) j ≡ true = by.through r (first r i) i j (first_in r i l) h in
      let none : R r (first r i) j ≡ false = (first_least r j m).1.before (first r i) k in
      cc

  pub first_same : (r i j : ℕ) → i < n → j < n → R r i j ≡ true → first r i ≡ first r j
  first_same r i j l m h = elim (cases_order (first r i) (first r j)) [
    | inl e ↦ e
    | inr (inl k) ↦ absurd (not_before r i j l m h k)
    | inr (inr k) ↦ absurd (not_before r j i m l (by.back r i j h) k)
  ]

  pub one_class : (r i j : ℕ) → i < n → j < n → first r i ≡ first r j → R r i j ≡ true
  one_class r i j l m e =
      by.through r i (first r i) j (by.back r (first r i) i (first_in r i l))
      (subst (λ k. R r k j ≡ true) (sym e) (first_in r j m))

  pub first_first : (r i : ℕ) → i < n → first r (first r i) ≡ first r i
  first_first r i l = first_same r (first r i) i (first_below r i l) l (first_in r i l)

  -- the first of a class at a round is in the class of its members at the round before
  pub first_within : (r i : ℕ) → i < n → first r (first (suc r) i) ≡ first r i
  first_within r i l = first_same r (first (suc r) i) i (first_below (suc r) i l) l
      (by.falls r (first (suc r) i) i (first_in (suc r) i l))

  -- a first stays one
  pub first_next : (r h : ℕ) → h < n → first r h ≡ h → first (suc r) h ≡ h
  first_next r h l e =
      let within : first r (first (suc r) h) ≡ first r h = first_within r h l in
      let le = first_le (suc r) h l in
      let back = first_le r (first (suc r) h) (first_below (suc r) h l) in
      omega arith

  first_later : (q r h : ℕ) → h < n → q ≤ r → first q h ≡ h → first r h ≡ h
  first_later q zero h l k e = let same : q ≡ 0 = omega arith in subst (λ m. first m h ≡ h) same e
  first_later q (suc r) h l k e = elim (cases_lt r q) [
    | inl m ↦ let same : q ≡ suc r = omega arith in subst (λ m. first m h ≡ h) same e
    | inr m ↦ first_next r h l (first_later q r h l m e)
  ]

  -- after the last round nothing changes
  pub first_stays : (r i : ℕ) → i < n → last ≤ r → first (suc r) i ≡ first r i
  first_stays r i l h =
      sym (first_same (suc r) (first r i) i (first_below r i l) l (by.stays r (first r i) i h (first_in r i l)))
      ∙ first_next r (first r i) (first_below r i l) (first_first r i l)

  -- h was no first at the round before
  abbrev pub WasNone : ℕ → ℕ → Type 0
  WasNone zero h = ⊤
  WasNone (suc r) h = first r h ≢ h

  -- h becomes the first of its class
  pub record IsBirth (r h : ℕ) : Type 0 where
    pub within : h < n
    pub first : first r h ≡ h
    pub fresh : WasNone r h

  pub birth_of : (r h : ℕ) → h < n → first r h ≡ h → (q : ℕ) × (q ≤ r) × IsBirth q h
  birth_of zero h l e = (0, omega arith, record { within = l; first = e; fresh = tt })
  birth_of (suc r) h l e = elim (cases_eq (first r h) h) [
    | inl was ↦ let found = birth_of r h l was in let le = found.1 in (found.0, omega arith, found.2)
    | inr new ↦ (suc r, omega arith, record { within = l; first = e; fresh = new })
  ]

  not_again : (q r h : ℕ) → IsBirth q h → IsBirth r h → q < r → ⊥
  not_again q zero h a b l = omega arith
  not_again q (suc r) h a b l = b.fresh (first_later q r h a.within (omega arith) a.first)

  pub birth_once : (q r h : ℕ) → IsBirth q h → IsBirth r h → q ≡ r
  birth_once q r h a b = elim (cases_order q r) [
    | inl e ↦ e
    | inr (inl l) ↦ absurd (not_again q r h a b l)
    | inr (inr l) ↦ absurd (not_again r q h b a l)
  ]

  pub birth_in_time : (r h : ℕ) → IsBirth r h → r ≤ last
  birth_in_time zero h b = omega arith
  birth_in_time (suc r) h b = elim (cases_lt r last) [
    | inl l ↦ omega arith
    | inr l ↦ absurd (b.fresh (sym (first_stays r h b.within l) ∙ b.first))
  ]

  is_birth : (r h : ℕ) → h < n → IsBirth r h ⊎ (IsBirth r h → ⊥)
  is_birth r h l = elim (cases_eq (first r h) h) [ inl e ↦ go r e | inr e ↦ inr (λ b. e b.first) ]
    where
      go : (r : ℕ) → first r h ≡ h → IsBirth r h ⊎ (IsBirth r h → ⊥)
      go zero e = inl (record { within = l; first = e; fresh = tt })
      go (suc r) e = elim (cases_eq (first r h) h) [
        | inl was ↦ inr (λ b. b.fresh was)
        | inr new ↦ inl (record {
          within = l;
          first = e;
          fresh = new;
        })
      ]

  -- by round, then by index
  abbrev pub From : ℕ → ℕ → ℕ → ℕ → Type 0
  From r i q h = (r < q) ⊎ ((r ≡ q) × (i ≤ h))

  -- L has the births from index i at round r on, in order
  pub record AreBirths (r i : ℕ) (L : List (ℕ × ℕ)) : Type 0 where
    pub sound : (c q h : ℕ) → slice_get L c ≡ Some (q, h) → IsBirth q h × From r i q h
    pub complete : (q h : ℕ) → IsBirth q h → From r i q h → (c : ℕ) × (slice_get L c ≡ Some (q, h))
    pub ordered : (c d q h r j : ℕ) → c < d → slice_get L c ≡ Some (q, h) → slice_get L d ≡ Some (r, j)
        → IsBefore q h r j

  after_last : (r : ℕ) → last < r → AreBirths r 0 []
  after_last r l = record {
    sound = λ c q h e. absurd (cc);
    complete = λ q h b f. absurd (let k = birth_in_time q h b in elim f [
      | inl m ↦ omega arith
      | inr e ↦ let s = e.0 in
          omega arith
    ]);
    ordered = λ c d q h r j m e f. absurd (cc);
  }

  next_round : (r : ℕ) (L : List (ℕ × ℕ)) → AreBirths (suc r) 0 L → AreBirths r n L
  next_round r L a = record {
    sound = λ c q h e. let found = a.sound c q h e in
        (found.0, inl (elim found.1 [ inl m ↦ omega arith | inr s ↦ let t = s.0 in omega arith ]));
    complete = λ q h b f. a.complete q h b (elim f [
      | inl m ↦ elim (cases_order (suc r) q) [
        | inl e ↦ inr (e, omega arith)
        | inr (inl k) ↦ inl k
        | inr (inr k) ↦ absurd
            (omega arith)
      ]
      | inr e ↦ absurd (let l = b.within in let k = e.1 in omega arith)
    ]);
    ordered = a.ordered;
  }

  skipped : (r i : ℕ) (L : List (ℕ × ℕ)) → (IsBirth r i → ⊥) → AreBirths r (suc i) L → AreBirths r i L
  skipped r i L n a = record {
    sound = λ c q h e. let found = a.sound c q h e in
        (found.0, elim found.1 [ inl m ↦ inl m | inr s ↦ let le = s.1 in inr (s.0, omega arith) ]);
    complete = λ q h b f. a.complete q h b (elim f [
      | inl m ↦ inl m
      | inr s ↦ let le = s.1 in elim (cases_eq i h) [
        | inl e ↦ absurd (n (subst (λ k. IsBirth r k) (sym e) (subst (λ k. IsBirth k h) (sym s.0) b)))
        | inr e ↦ inr (s.0, omega arith)
      ]
    ]);
    ordered = a.ordered;
  }

  added : (r i : ℕ) (L : List (ℕ × ℕ)) → IsBirth r i → AreBirths r (suc i) L → AreBirths r i ((r, i) ∷ L)
  added r i L b a = record { sound = sound; complete = complete; ordered = ordered }
    where
      sound : (c q h : ℕ) → slice_get ((r, i) ∷ L) c ≡ Some (q, h) → IsBirth q h × From r i q h
      sound zero q h e =
          let one : r ≡ q = ap (λ p. p.0) (same_pair (r, i) (q, h) e) in
          let two : i ≡ h = ap (λ p. p.1) (same_pair (r, i) (q, h) e) in
          (subst (λ k. IsBirth q k) two (subst (λ k. IsBirth k i) one b), inr (one, omega arith))
      sound (suc c) q h e = let found = a.sound c q h e in
          (found.0, elim found.1 [ inl m ↦ inl m | inr s ↦ let le = s.1 in inr (s.0, omega arith) ])

      complete : (q h : ℕ) → IsBirth q h → From r i q h → (c : ℕ) × (slice_get ((r, i) ∷ L) c ≡ Some (q, h))
      complete q h k (inl m) = let found = a.complete q h k (inl m) in (suc found.0, found.1)
      complete q h k (inr s) = elim (cases_eq i h) [
        | inl e ↦ let t = s.0 in (0, cc)
        | inr e ↦ let le = s.1 in let found = a.complete q h k (inr (s.0, omega arith)) in (suc found.0, found.1)
      ]

      ordered : (c d q h p j : ℕ) → c < d → slice_get ((r, i) ∷ L) c ≡ Some (q, h) → slice_get ((r, i) ∷ L) d ≡ Some
          (p, j) → IsBefore q h p j
      ordered c zero q h p j m e f = absurd (omega arith)
      ordered zero (suc d) q h p j m e f =
          let one : r ≡ q = ap (λ p. p.0) (same_pair (r, i) (q, h) e) in
          let two : i ≡ h = ap (λ p. p.1) (same_pair (r, i) (q, h) e) in
          elim (a.sound d p j f).1 [
            | inl l ↦ inl (omega arith)
            | inr s ↦ let t = s.0 in let le = s.1 in
                inr (sym one ∙ t, omega arith)
          ]
      ordered (suc c) (suc d) q h p j m e f = a.ordered c d q h p j (omega arith) e f

  in_round : (r k i : ℕ) → i + k ≡ n → (L : List (ℕ × ℕ)) × AreBirths r n L → (L : List (ℕ × ℕ)) × AreBirths r i L
  in_round r zero i e rest = let same : n ≡ i = omega arith in (rest.0, subst (λ m. AreBirths r m rest.0) same rest.1)
  in_round r (suc k) i e rest =
      let later = in_round r k (suc i) (omega arith) rest in
      elim (is_birth r i (omega arith)) [
        | inl b ↦ ((r, i) ∷ later.0, added r i later.0 b later.1)
        | inr n ↦
            (later.0, skipped r i later.0 n later.1)
      ]

  from_round : (k r : ℕ) → r + k ≡ suc last → (L : List (ℕ × ℕ)) × AreBirths r 0 L
  from_round zero r e = ([], after_last r (omega arith))
  from_round (suc k) r e = let later = from_round k (suc r) (omega arith) in in_round r n 0 (omega arith)
      (later.0, next_round r later.0 later.1)

  -- all births, in order
  pub births : (L : List (ℕ × ℕ)) × AreBirths 0 0 L
  births = from_round (suc last) 0 (omega arith)

  pub born : (c q h : ℕ) → slice_get births.0 c ≡ Some (q, h) → IsBirth q h
  born c q h e = (births.1.sound c q h e).0

  -- where h stands among them
  place_in : List (ℕ × ℕ) → ℕ → ℕ
  place_in [] h = 0
  place_in (p ∷ L) h = cond (p.1 == h) 0 (suc (place_in L h))

  found_in : (L : List (ℕ × ℕ)) (c q h : ℕ) → slice_get L c ≡ Some (q, h) → (r : ℕ)
      × (slice_get L (place_in L h) ≡ Some (r, h))
  unfolding place_in
  found_in [] c q h e = absurd (cc)
  found_in (p ∷ L) zero q h e = let two : p.1 ≡ h = cc in
      (q, ap (λ b. slice_get (p ∷ L) (cond b 0 (suc (place_in L h)))) (eq-eqb p.1 h two) ∙ e)
  found_in (p ∷ L) (suc c) q h e = go (p.1 == h) refl (found_in L c q h e)
    where
      go : (b : Bool) → (p.1 == h) ≡ b → (r : ℕ) × (slice_get L (place_in L h) ≡ Some (r, h)) → (r : ℕ)
          × (slice_get (p ∷ L) (cond b 0 (suc (place_in L h))) ≡ Some (r, h))
      go true e found = let two : p.1 ≡ h = eqb-true p.1 h e in (p.0, ap (λ k. Some (p.0, k)) two)
      go false e found = found

  pub place : ℕ → ℕ
  place = place_in births.0

  pub placed : (q h : ℕ) → IsBirth q h → slice_get births.0 (place h) ≡ Some (q, h)
  unfolding place
  placed q h b =
      let there = births.1.complete q h b
      (elim (cases_eq 0 q) [ inl e ↦ inr (e, omega arith) | inr e ↦ inl (omega arith) ]) in
      let found = found_in births.0 there.0 q h there.1 in
      let same : found.0 ≡ q = birth_once found.0 q h (born (place_in births.0 h) found.0 h found.1) b in
      found.1 ∙ ap (λ r. Some (r, h)) same

  not_before_itself : (c d q h : ℕ) → slice_get births.0 c ≡ Some (q, h) → slice_get births.0 d ≡ Some (q, h) → c < d
      → ⊥
  not_before_itself c d q h e f l = elim (births.1.ordered c d q h q h l e f)
      [ inl m ↦ omega arith | inr m ↦ let k = m.1 in omega arith ]

  pub place_is : (c q h : ℕ) → slice_get births.0 c ≡ Some (q, h) → place h ≡ c
  place_is c q h e =
      let at = placed q h (born c q h e) in
      elim (cases_order (place h) c) [
        | inl same ↦ same
        | inr (inl l) ↦ absurd (not_before_itself (place h) c q h at e l)
        | inr (inr l) ↦ absurd (not_before_itself c (place h) q h e at l)
      ]
