-- What weak pins tell of the items of a list in turn.
use Rattle.std.specs.Prelude.{◌≡◌, ℕ, ◌+◌, ◌≤◌, List, [], ◌∷◌, ◌++◌, drop, length, Some, slice_get, ◌⊎◌, ◌↔◌}
use Rattle.std.proofs.Common.{sym, subst, inl, inr}
use Rattle.schema_semantics.specs.Names.{OneOf}
use Rattle.population_pins.specs.steps.Elements.{Question}
use Rattle.population_pins.specs.steps.Gathering.{Gathers, GathersUpTo}
use Rattle.population_pins.specs.declared.weak_pin_lists.Gathered.{Gathered}
use Rattle.population_pins.proofs.Gathering as gathering
use Rattle.population_pins.proofs.Adding.{drop-item, drop-all}

pub one-either : {A : Type 0} (P : A → Type 0) (xs ys : List A) → OneOf P (xs ++ ys) → OneOf P xs ⊎ OneOf P ys
one-either P [] ys h = inr h
one-either P (x ∷ xs) ys (inl p) = inl (inl p)
one-either P (x ∷ xs) ys (inr h) = elim (one-either P xs ys h) [ inl m ↦ inl (inr m) | inr m ↦ inr m ]

pub one-left : {A : Type 0} (P : A → Type 0) (xs ys : List A) → OneOf P xs → OneOf P (xs ++ ys)
one-left P [] ys h = absurd h
one-left P (x ∷ xs) ys (inl p) = inl p
one-left P (x ∷ xs) ys (inr h) = inr (one-left P xs ys h)

pub one-right : {A : Type 0} (P : A → Type 0) (xs ys : List A) → OneOf P ys → OneOf P (xs ++ ys)
one-right P [] ys h = h
one-right P (x ∷ xs) ys h = inr (one-right P xs ys h)

module _ {A : Type 0} (R : Question → A → Type 0) (xs : List A) (i : ℕ) (old : Gathered) where
  -- one item more
  pub next : (x : A) (mid new : Gathered) → slice_get xs i ≡ Some x
      → GathersUpTo (λ q. OneOf (R q) xs) (λ q. OneOf (R q) (drop i xs)) old mid → Gathers (λ q. R q x) mid new
      → GathersUpTo (λ q. OneOf (R q) xs) (λ q. OneOf (R q) (drop (i + 1) xs)) old new
  next x mid new at h k =
      gathering.next (λ q. OneOf (R q) xs) (λ q. OneOf (R q) (drop i xs)) (λ q. R q x)
      (λ q. OneOf (R q) (drop (i + 1) xs)) old mid new h k
      (λ q. subst (λ l. OneOf (R q) l ↔ (R q x ⊎ OneOf (R q) (drop (i + 1) xs))) (sym (drop-item xs i x at))
      ((λ t. t), (λ t. t)))

  -- all of them
  pub ends : (new : Gathered) → length xs ≤ i
      → GathersUpTo (λ q. OneOf (R q) xs) (λ q. OneOf (R q) (drop i xs)) old new
      → Gathers (λ q. OneOf (R q) xs) old new
  ends new past h =
      gathering.ends (λ q. OneOf (R q) xs) (λ q. OneOf (R q) (drop i xs)) old new h
      (λ q l. subst (OneOf (R q)) (drop-all xs i past) l)
