-- Steps over the targets of values.
use Rattle.std.proofs.Common.{◌≡◌, ℕ, ◌+◌, ◌≤◌, List, ◌++◌, Some, sym, ap, ◌∙◌, append_assoc, append-nil}
use Rattle.step_values.specs.AgreementTests.{value_count}
use Rattle.step_values.specs.steps.Slots.{nth}
use Rattle.step_values.specs.Values.{Value, Values}
use Rattle.step_values.proofs.Walks.{after, after_at, after_all}
use Rattle.population_inverses.specs.steps.Targets.{targets, targets_of_each}

module _ (vs : Values) (i : ℕ) (names all : List ℕ) (walked : names ++ targets_of_each (after i vs) ≡ all) where
  -- one value more
  pub next : (v : Value) (new : List ℕ) → nth vs i ≡ Some v → new ≡ names ++ targets v
      → new ++ targets_of_each (after (i + 1) vs) ≡ all
  next v new at is =
      ap (λ l. l ++ targets_of_each (after (i + 1) vs)) is
      ∙ append_assoc names (targets v) (targets_of_each (after (i + 1) vs))
      ∙ ap (λ us. names ++ targets_of_each us) (sym (after_at vs i v at)) ∙ walked

  -- all of them
  pub ends : value_count vs ≤ i → names ≡ all
  ends past =
      sym (append-nil names) ∙ ap (λ us. names ++ targets_of_each us) (sym (after_all vs i past)) ∙ walked
