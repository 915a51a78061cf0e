-- The first member of a class.
use Rattle.std.specs.Prelude.{◌≡◌, ℕ, List, map, slice_index}
use Rattle.value_equality.specs.Tables.{Table}
use Rattle.value_equality.specs.Standard.{IsFirstOfClass}

-- the names of a table's members
abbrev pub member_names : Table → List ℕ
member_names t = map (λ m. m.0) t.members

-- y is the name of the first member of class c at the last round
abbrev pub IsHead : Table → ℕ → ℕ → Type 0
IsHead t c y = (i : ℕ) × IsFirstOfClass (member_names t) t t.rounds c i × (slice_index (member_names t) i ≡ y)
