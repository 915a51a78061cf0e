-- What the code computes; no promise stands here. The invariant of the program's populations.
use Rattle.std.specs.Prelude.{◌≡◌, ◌<◌, ◌^◌, ℕ, Bool, List, length, is_some}
use Rattle.std.specs.List.{All}
use Rattle.population_rows.specs.declared.index.RowIndex.{RowIndex}
use Rattle.population_rows.specs.Index.{place_of, found}
use Rattle.step_values.specs.steps.Building.{Kept}
use Rattle.step_values.specs.steps.Targets.{LeadTo}
use Rattle.value_equality.specs.Views.{Head, rows_from}
use Rattle.value_equality.specs.Rows.{Row, names, IsPopulation, AreFew}

-- The index finds the first position of each name.
abbrev pub Finds : RowIndex → List ℕ → Type 0
Finds index ns = (y : ℕ) → found index y ≡ place_of ns y

-- The index finds the name.
abbrev pub is_found : RowIndex → ℕ → Bool
is_found index y = is_some (found index y)

-- The index finds the rows by their names. They are a population of fewer than 2^32 rows, and their
-- names are numbers of 64 bits.
pub record IsPlaced (index : RowIndex) (rows : List Row) : Type 0 where
  pub finds : Finds index (names rows)
  pub population : IsPopulation rows
  pub few : AreFew rows
  pub range : All (λ y. y < 2 ^ 64) (names rows)

-- The index finds the rows that these heads and values form. Each reference has the position of the
-- row that it names.
pub record IsKept (heads : List Head) (values : Kept) (index : RowIndex) : Type 0 where
  pub each : length heads ≡ length values.rows
  pub placed : IsPlaced index (rows_from heads values.rows)
  pub leads : LeadTo (names (rows_from heads values.rows)) values.targets
