-- The first of a list that passes a test, by its number.
use Rattle.std.specs.Prelude.{◌≡◌, ℕ, zero, suc, ◌+◌, ◌<◌, Bool, true, false, cond, List, [], ◌∷◌, Option, None, Some, map, slice_get, ◌↔◌}
use Rattle.std.specs.List.{position_from}
use Rattle.std.proofs.Common.{refl, inl, inr, ap, sym, subst, ◌∙◌, arith}
use Rattle.express_syntax.specs.Profile.{Every}
use Rattle.schema_semantics.specs.Names.{Among, IsFirst}
use Rattle.schema_semantics.specs.Attributes.{IsNth}
use Rattle.schema_attribute_sources.specs.StoredAttributes.{HasTest, IsTested}

one-place : (k n : ℕ) → Some k ≡ Some n → n ≡ k + 0
one-place k n e = let same : k ≡ n = cc in omega (arith, same)

-- what stands where the first that passes a test is found
position-tested : {A : Type 0} (test : A → Bool) (k : ℕ) (xs : List A) (n : ℕ) → position_from test k xs ≡ Some n
    → (i : ℕ) × (n ≡ k + i) × HasTest test xs i
position-tested test k [] n h = absurd (cc)
position-tested test k (x ∷ xs) n h = by (test x) refl h (position-tested test (k + 1) xs n)
  where
    by : (b : Bool) → test x ≡ b → cond b (Some k) (position_from test (k + 1) xs) ≡ Some n
        → (position_from test (k + 1) xs ≡ Some n → (i : ℕ) × (n ≡ k + 1 + i) × HasTest test xs i)
        → (i : ℕ) × (n ≡ k + i) × HasTest test (x ∷ xs) i
    by true e h more = (0, one-place k n h, (x, refl, e))
    by false e h more = let (i, counted, passes) = more h in (suc i, omega (arith, counted), passes)

pub is-tested : {A : Type 0} (test : A → Bool) (xs : List A) (o : Option ℕ) → o ≡ position_from test 0 xs
    → IsTested test xs o
is-tested test xs None e = sym e
is-tested test xs (Some n) e =
    let (i, counted, passes) = position-tested test 0 xs n (sym e) in
    let same : i ≡ n = omega (arith, counted) in subst (HasTest test xs) same passes

module _ {A : Type 0} (test : A → Bool) where
  -- what stands there passes, and what stands before doesn't
  abbrev pub IsPlaced : ℕ → List A → ℕ → Type 0
  IsPlaced k xs n =
      (i : ℕ) × (n ≡ k + i) × (x : A) × IsNth xs i x × (test x ≡ true)
      × ((j : ℕ) (y : A) → j < i → IsNth xs j y → test y ≡ false)

  pub placed : (k : ℕ) (xs : List A) (n : ℕ) → position_from test k xs ≡ Some n → IsPlaced k xs n
  placed k [] n h = absurd (cc)
  placed k (x ∷ xs) n h = by (test x) refl h (placed (k + 1) xs n)
    where
      by : (b : Bool) → test x ≡ b → cond b (Some k) (position_from test (k + 1) xs) ≡ Some n
          → (position_from test (k + 1) xs ≡ Some n → IsPlaced (k + 1) xs n) → IsPlaced k (x ∷ xs) n
      by true e h more = (0, one-place k n h, x, refl, e, λ j y lt at. absurd (omega (arith, lt)))
      by false e h more =
          let (i, counted, y, at, passes, before) = more h in
          (suc i, omega (arith, counted), y, at, passes, later i before)
        where
          later : (i : ℕ) → ((j : ℕ) (z : A) → j < i → IsNth xs j z → test z ≡ false) → (j : ℕ) (z : A) → j < suc i
              → IsNth (x ∷ xs) j z → test z ≡ false
          later i before zero z lt at = ap test (sym at) ∙ e
          later i before (suc j) z lt at = before j z (omega (arith, lt)) at

  -- where none passes
  pub unplaced : (k : ℕ) (xs : List A) → position_from test k xs ≡ None → (j : ℕ) (y : A) → IsNth xs j y
      → test y ≡ false
  unplaced k [] h j y at = elim at [ ]
  unplaced k (x ∷ xs) h j y at = by (test x) refl h j at (unplaced (k + 1) xs)
    where
      by : (b : Bool) → test x ≡ b → cond b (Some k) (position_from test (k + 1) xs) ≡ None → (j : ℕ)
          → IsNth (x ∷ xs) j y
          → (position_from test (k + 1) xs ≡ None → (j : ℕ) (y : A) → IsNth xs j y → test y ≡ false)
          → test y ≡ false
      by true e h j at more = absurd (cc)
      by false e h zero at more = ap test (sym at) ∙ e
      by false e h (suc j) at more = more h j y at

-- what items are seen as, where the test decides P of it
module _ {A B : Type 0} (f : A → B) (test : A → Bool) (P : B → Type 0) where
  abbrev pub Decides : A → Type 0
  Decides x = (test x ≡ true) ↔ P (f x)

  pub first-found : (k : ℕ) (xs : List A) (n : ℕ) → Every Decides xs → position_from test k xs ≡ Some n
      → (i : ℕ) × (n ≡ k + i) × (y : B) × (slice_get (map f xs) i ≡ Some y) × IsFirst P (map f xs) y
  first-found k [] n d h = absurd (cc)
  first-found k (x ∷ xs) n d h = by (test x) refl h (first-found (k + 1) xs n d.1)
    where
      behind : test x ≡ false → P (f x) → ⊥
      behind e p = let yes = d.0.1 p in absurd (cc)

      by : (b : Bool) → test x ≡ b → cond b (Some k) (position_from test (k + 1) xs) ≡ Some n
          → (position_from test (k + 1) xs ≡ Some n
          → (i : ℕ) × (n ≡ k + 1 + i) × (y : B) × (slice_get (map f xs) i ≡ Some y) × IsFirst P (map f xs) y)
          → (i : ℕ) × (n ≡ k + i) × (y : B) × (slice_get (f x ∷ map f xs) i ≡ Some y)
          × IsFirst P (f x ∷ map f xs) y
      by true e h more = (0, one-place k n h, f x, refl, inl (d.0.0 e, refl))
      by false e h more =
          let (i, counted, y, at, first) = more h in
          (suc i, omega (arith, counted), y, at, inr (behind e, first))

  pub none-there : (k : ℕ) (xs : List A) → Every Decides xs → position_from test k xs ≡ None → (y : B)
      → Among y (map f xs) → P y → ⊥
  none-there k [] d h y m p = elim m [ ]
  none-there k (x ∷ xs) d h y m p = by (test x) refl h m (none-there (k + 1) xs d.1)
    where
      by : (b : Bool) → test x ≡ b → cond b (Some k) (position_from test (k + 1) xs) ≡ None
          → Among y (f x ∷ map f xs)
          → (position_from test (k + 1) xs ≡ None → (y : B) → Among y (map f xs) → P y → ⊥) → ⊥
      by true e h m more = absurd (cc)
      by false e h (inl is) more = let yes = d.0.1 (subst P (sym is) p) in absurd (cc)
      by false e h (inr m) more = more h y m p

pub position-mapped : {A B : Type 0} (f : A → B) (test : B → Bool) (k : ℕ) (xs : List A)
    → position_from (λ (x : A). test (f x)) k xs ≡ position_from test k (map f xs)
position-mapped f test k [] = refl
position-mapped f test k (x ∷ xs) = ap (cond (test (f x)) (Some k)) (position-mapped f test (k + 1) xs)
