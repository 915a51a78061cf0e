-- Data types that are alike, according to a table that has the shape of each at its number.
use Rattle.std.specs.Prelude.{◌≡◌, ℕ, ◌<◌, Bool, true, List, length, Some}
use Rattle.std.specs.List.{slice_get}
use Rattle.schema_data_types.specs.declared.shapes.Shape.{Shape}
use Rattle.schema_data_types.specs.declared.shapes.Shape.TheVariants.{Numbers, Logicals, Strings, Binaries, Items, Instances, Arrays, Lists, Collections}

-- The number of the data type of the elements, if any, is below n.
abbrev pub LeadsBelow : ℕ → Shape → Type 0
LeadsBelow n (Arrays k) = k < n
LeadsBelow n (Lists k) = k < n
LeadsBelow n (Collections k) = k < n
LeadsBelow n f = Unit {0}

-- The elements of each shape are of a data type of the table.
abbrev pub IsTable : List Shape → Type 0
IsTable shapes = (k : ℕ) (f : Shape) → slice_get shapes k ≡ Some f → LeadsBelow (length shapes) f

-- Two shapes are equal, with elements that R relates.
abbrev pub AreOne : (ℕ → ℕ → Bool) → Shape → Shape → Type 0
AreOne R Numbers Numbers = Unit {0}
AreOne R Logicals Logicals = Unit {0}
AreOne R Strings Strings = Unit {0}
AreOne R Binaries Binaries = Unit {0}
AreOne R Items Items = Unit {0}
AreOne R Instances Instances = Unit {0}
AreOne R (Arrays k) (Arrays l) = R k l ≡ true
AreOne R (Lists k) (Lists l) = R k l ≡ true
AreOne R (Collections k) (Collections l) = R k l ≡ true
AreOne R f g = ⊥

-- R preserves shapes: the data types that it relates have equal shapes.
abbrev pub KeepsShapes : List Shape → (ℕ → ℕ → Bool) → Type 0
KeepsShapes shapes R = (k l : ℕ) → R k l ≡ true
    → (f g : Shape) × (slice_get shapes k ≡ Some f) × (slice_get shapes l ≡ Some g) × AreOne R f g

-- Two data types are alike in the greatest relation that preserves shapes: some relation that
-- preserves shapes relates them. So a pair that recurs in its own comparison counts as alike.
abbrev pub AreAlikeAt : List Shape → ℕ → ℕ → Type 0
AreAlikeAt shapes k l = (R : ℕ → ℕ → Bool) × (R k l ≡ true) × KeepsShapes shapes R
