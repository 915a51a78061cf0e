-- What the code computes; no promise stands here. Whether rows that are the first of their classes
-- are in the output.
use Rattle.std.specs.Prelude.{◌≡◌, ◌≤◌, ℕ, ◌==◌, ◌&&◌, Bool, true, cond, List, [], ◌∷◌, Some, slice_get, slice_index, is_some, drop, map}
use Rattle.value_equality.specs.Rows.{Row, row_at}
use Rattle.value_equality.specs.steps.ComputedImages.{row_lands}

-- The first member of a class; `d` if it has none.
abbrev pub first_of : ℕ → List (ℕ × ℕ) → ℕ → ℕ
first_of d [] c = d
first_of d (m ∷ ms) c = cond (m.1 == c) m.0 (first_of d ms c)

-- For each member from position `at` on, `firsts` has at the number of its class the first of these
-- members in that class.
abbrev pub TellsFrom : List (ℕ × ℕ) → List ℕ → ℕ → Type 0
TellsFrom ms firsts at = (i : ℕ) (m : ℕ × ℕ) → at ≤ i → slice_get ms i ≡ Some m → slice_index firsts m.1
    ≡ first_of 0 (drop at ms) m.1

-- The first member of the class of each member.
abbrev pub firsts_of : List (ℕ × ℕ) → List ℕ
firsts_of ms = map (λ (m : ℕ × ℕ). first_of 0 ms m.1) ms

-- If the row is the first of its class, it agrees with the row of `out` that has its name.
abbrev pub first_lands : (ℕ → ℕ) → List Row → Row → Bool
first_lands h out p = cond (h p.name == p.name) (row_lands h p (row_at out (h p.name))) true

-- The name is that of a row, which is the first of its class.
abbrev pub is_first : List Row → (ℕ → ℕ) → ℕ → Bool
is_first P h y = is_some (row_at P y) && (h y == y)
