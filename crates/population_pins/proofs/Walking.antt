-- Steps over values one after another.
use Rattle.std.specs.Prelude.{◌≡◌, ℕ, ◌+◌, ◌≤◌, Some, ◌⊎◌, ◌↔◌, Vec}
use Rattle.std.proofs.Common.{sym, subst, Global}
use Rattle.step_values.specs.AgreementTests.{value_count}
use Rattle.step_values.specs.steps.Slots.{nth}
use Rattle.step_values.specs.Values.{Value, Values, none, more}
use Rattle.step_values.proofs.Walks.{after, after_at, after_all}
use Rattle.population_pins.specs.steps.Pinning.{Pins, PinsUpTo}
use Rattle.population_pins.proofs.Pinning as pinning

-- what holds of one of some values
module _ (P : ℕ → Value → Type 0) (One : ℕ → Values → Type 0) (empty : (y : ℕ) → One y none → ⊥)
    (first : (y : ℕ) (v : Value) (vs : Values) → One y (more v vs) ↔ (P y v ⊎ One y vs)) (vs : Values) (i : ℕ)
    (old : Vec ℕ Global) where
  -- one value more
  pub next : (v : Value) (mid new : Vec ℕ Global) → nth vs i ≡ Some v
      → PinsUpTo (λ y. One y vs) (λ y. One y (after i vs)) old mid → Pins (λ y. P y v) mid new
      → PinsUpTo (λ y. One y vs) (λ y. One y (after (i + 1) vs)) old new
  next v mid new at h k =
      pinning.next (λ y. One y vs) (λ y. One y (after i vs)) (λ y. P y v) (λ y. One y (after (i + 1) vs)) old mid new h k
      (λ y. subst (λ us. One y us ↔ (P y v ⊎ One y (after (i + 1) vs))) (back v at) (first y v (after (i + 1) vs)))
    where
      back : (v : Value) → nth vs i ≡ Some v → more v (after (i + 1) vs) ≡ after i vs
      back v at = sym (after_at vs i v at)

  -- all of them
  pub ends : (new : Vec ℕ Global) → value_count vs ≤ i → PinsUpTo (λ y. One y vs) (λ y. One y (after i vs)) old new
      → Pins (λ y. One y vs) old new
  ends new past h =
      pinning.ends (λ y. One y vs) (λ y. One y (after i vs)) old new h
      (λ y l. empty y (subst (One y) (after_all vs i past) l))
