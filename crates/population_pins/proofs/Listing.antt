-- Steps over lists, of each item of which some names are pinned.
use Rattle.std.specs.Prelude.{◌≡◌, ℕ, ◌+◌, ◌<◌, ◌≤◌, zero, suc, List, [], ◌∷◌, length, drop, Some, slice_get, get_or, ◌⊎◌, ◌↔◌, Vec}
use Rattle.std.proofs.Common.{refl, sym, ap, subst, arith, add-one, Global}
use Rattle.schema_semantics.specs.Names.{OneOf}
use Rattle.population_pins.specs.steps.Pinning.{Pins, PinsUpTo}
use Rattle.population_pins.proofs.Pinning as pinning

drop-item : {A : Type 0} (xs : List A) (i : ℕ) (x : A) → slice_get xs i ≡ Some x → drop i xs ≡ x ∷ drop (i + 1) xs
drop-item [] i x e = absurd (cc)
drop-item (y ∷ ys) zero x e = let same : y ≡ x = cc in ap (λ z. z ∷ ys) same
drop-item (y ∷ ys) (suc i) x e = rw add-one (rw add-one at (drop-item ys i x e))

drop-got : {A : Type 0} (xs : List A) (i : ℕ) (x : A) → i < length xs → x ≡ get_or xs i x
    → drop i xs ≡ x ∷ drop (i + 1) xs
drop-got [] i x lt e = absurd (omega (arith, lt))
drop-got (y ∷ ys) zero x lt e = ap (λ z. z ∷ ys) (sym e)
drop-got (y ∷ ys) (suc i) x lt e = rw add-one (rw add-one at (drop-got ys i x (omega (arith, lt)) e))

drop-past : {A : Type 0} (xs : List A) (i : ℕ) → length xs ≤ i → drop i xs ≡ []
drop-past [] zero h = refl
drop-past [] (suc i) h = refl
drop-past (x ∷ xs) zero h = absurd (omega (arith, h))
drop-past (x ∷ xs) (suc i) h = drop-past xs i (omega (arith, h))

module _ {A : Type 0} (Q : ℕ → A → Type 0) (xs : List A) (i : ℕ) (old : Vec ℕ Global) where
  -- so far names are pinned
  abbrev pub SoFar : Vec ℕ Global → Type 0
  SoFar new = PinsUpTo (λ y. OneOf (Q y) xs) (λ y. OneOf (Q y) (drop i xs)) old new

  after-one : (x : A) (mid new : Vec ℕ Global) → drop i xs ≡ x ∷ drop (i + 1) xs → SoFar mid → Pins (λ y. Q y x) mid new
      → PinsUpTo (λ y. OneOf (Q y) xs) (λ y. OneOf (Q y) (drop (i + 1) xs)) old new
  after-one x mid new cut h k =
      pinning.next (λ y. OneOf (Q y) xs) (λ y. OneOf (Q y) (drop i xs)) (λ y. Q y x)
      (λ y. OneOf (Q y) (drop (i + 1) xs)) old mid new h k
      (λ y. subst (λ l. OneOf (Q y) l ↔ (Q y x ⊎ OneOf (Q y) (drop (i + 1) xs))) (sym cut) ((λ t. t), (λ t. t)))

  -- one item more
  pub next : (x : A) (mid new : Vec ℕ Global) → slice_get xs i ≡ Some x → SoFar mid → Pins (λ y. Q y x) mid new
      → PinsUpTo (λ y. OneOf (Q y) xs) (λ y. OneOf (Q y) (drop (i + 1) xs)) old new
  next x mid new at h k = after-one x mid new (drop-item xs i x at) h k

  -- all of them
  pub ends : (new : Vec ℕ Global) → length xs ≤ i → SoFar new → Pins (λ y. OneOf (Q y) xs) old new
  ends new past h =
      pinning.ends (λ y. OneOf (Q y) xs) (λ y. OneOf (Q y) (drop i xs)) old new h
      (λ y l. subst (OneOf (Q y)) (drop-past xs i past) l)
