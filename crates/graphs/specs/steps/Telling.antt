-- What the index of a forest reports about its vertices.
use Rattle.std.specs.Prelude.{ℕ, ◌<◌, ◌-◌, Bool, false, ◌&&◌, not, Option, Some, None, length, slice_get, ltb, ◌↔◌, IsTrue}
use Rattle.graphs.specs.Graphs.{Graph}
use Rattle.graphs.specs.steps.Forests.{IsUnder}
use Rattle.graphs.specs.declared.forest.Forest.{Forest}

-- position k is among the n positions from i on
abbrev pub is_within : Option ℕ → Option ℕ → Option ℕ → Bool
is_within (Some k) (Some i) (Some n) = not (ltb k i) && ltb (k - i) n
is_within k i n = false

abbrev pub is_under : Forest → ℕ → ℕ → Bool
is_under f a b = is_within (slice_get f.firsts.items a) (slice_get f.firsts.items b) (slice_get f.sizes.items b)

-- For any two vertices, f reports whether the first is under the second.
abbrev pub Tells : Graph → Forest → Type 0
Tells g f = (a b : ℕ) → a < length g → b < length g → IsTrue (is_under f a b) ↔ IsUnder g a b
