-- Whether an explicit attribute is the one of a given entity and name.
use Rattle.std.specs.Prelude.{◌≡◌, ℕ, Bool, true, false, List, Option, None, Some, slice_get}
use Rattle.schema_semantics.specs.Attributes.{Place, same_place}

abbrev pub is_place : Place → Option Place → Bool
is_place p None = false
is_place p (Some q) = same_place q p

-- The explicit attribute p has the number q.
abbrev pub IsPlaceAt : List Place → Place → ℕ → Type 0
IsPlaceAt all p q = is_place p (slice_get all q) ≡ true
