-- Which values can be, or can contain, a LIST or ARRAY OF UNIQUE, and where they have it. What the
-- code computes; no promise stands here.
use Rattle.std.specs.Prelude.{◌≡◌, Bool, true, false, ◌||◌}
use Rattle.step_values.specs.Values.{Values}
use Rattle.express_syntax.specs.Schemas.{Schema}
use Rattle.conformance.specs.Bases.{Aggregate, Base, select, aggregate, Domain, base}
use Rattle.conformance.specs.Elements.{HasUniqueAmong}

-- The data type is an aggregate OF UNIQUE.
abbrev pub is_unique : Base → Bool
is_unique (aggregate a) = a.unique
is_unique b = false

-- Values of the data type can have parts.
abbrev pub has_parts : Base → Bool
has_parts (select m) = true
has_parts (aggregate a) = true
has_parts b = false

-- A value of the data type may be, or may contain, a LIST or ARRAY OF UNIQUE. A SET counts as one.
abbrev pub may_hold : Domain → Base → Bool
may_hold d (select m) = true
may_hold d (aggregate a) = a.unique || has_parts (base d a.element)
may_hold d b = false

-- The value is a LIST or ARRAY OF UNIQUE, and `P` holds of its elements.
abbrev pub IsUnique : (Values → Type 0) → Base → Values → Type 0
IsUnique P b vs = (is_unique b ≡ true) × P vs

-- `P` holds of the elements of a LIST or ARRAY OF UNIQUE that is, or is inside, an element of this
-- aggregate.
abbrev pub HasInElements : Schema → Domain → (Values → Type 0) → Base → Values → Type 0
HasInElements s d P b vs = (a : Aggregate) × (b ≡ aggregate a) × HasUniqueAmong s d P (base d a.element) vs
