-- Lists with an entry for each row of a population.
use Rattle.std.specs.Prelude.{ℕ, ◌==◌, cond, List, [], ◌∷◌}
use Rattle.value_equality.specs.Rows.{Row}

-- The entry at the position of the row with this name; the name itself if there is none.
abbrev pub by_place : List Row → List ℕ → ℕ → ℕ
by_place [] xs y = y
by_place (r ∷ rows) [] y = y
by_place (r ∷ rows) (x ∷ xs) y = cond (r.name == y) x (by_place rows xs y)
