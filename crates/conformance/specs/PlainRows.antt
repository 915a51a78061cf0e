-- The rows of a population. The row of an instance has its types in the order of their letters. Its
-- values are those of the attributes that the types themselves declare, type by type in that order,
-- as in the partial records of the external mapping (ISO 10303-21, 11.2.5.3).
use Rattle.std.specs.Prelude.{◌≡◌, List, [], ◌∷◌, Option, None, Some, flat_map}
use Rattle.express_syntax.specs.Schemas.{Schema}
use Rattle.schema_semantics.specs.Attributes.{Place}
use Rattle.conformance.specs.Entities.{own_places_of}
use Rattle.conformance.specs.Populations.{Slot, Instance, slot_at}
use Rattle.step_values.specs.Leaves.{unset}
use Rattle.step_values.specs.Values.{Value, leaf, Values, none, more}
use Rattle.value_equality.specs.Rows.{Row}
use Rattle.value_equality.specs.SortedTypes.{AreInOrder}

-- The value, if any, otherwise an unset one.
abbrev pub or_unset : Option Value → Value
or_unset None = leaf unset
or_unset (Some v) = v

-- The values of these attributes, in order.
abbrev pub values_at : List Slot → List Place → Values
values_at slots [] = none
values_at slots (p ∷ ps) = more (or_unset (slot_at slots p)) (values_at slots ps)

-- `r` is the row of the instance `i`.
pub record IsRowOf (s : Schema) (i : Instance) (r : Row) : Type 0 where
  pub name : r.name ≡ i.name
  pub section : r.section ≡ i.section
  pub types : AreInOrder i.types r.types
  pub values : r.values ≡ values_at i.slots (flat_map (own_places_of s) r.types)

-- The rows are those of the instances, in order.
abbrev pub AreRowsOf : Schema → List Instance → List Row → Type 0
AreRowsOf s [] [] = Unit {0}
AreRowsOf s (i ∷ is) (r ∷ rs) = IsRowOf s i r × AreRowsOf s is rs
AreRowsOf s is rs = ⊥

-- A population has one list of rows.
abbrev pub RowsAreOne : Type 0
RowsAreOne = (s : Schema) (is : List Instance) (P Q : List Row) → AreRowsOf s is P → AreRowsOf s is Q → P ≡ Q
