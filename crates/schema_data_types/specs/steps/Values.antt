-- The possible values of a data type, by number (ISO 10303-11, 8).
use Rattle.std.specs.Prelude.{◌≡◌, ◌<◌, ◌^◌, List, Some, length, map, slice_get, ◌⊎◌, ◌↔◌}
use Rattle.graphs.specs.Graphs.{Graph, graph_of}
use Rattle.express_syntax.specs.Schemas.{Schema, DataType}
use Rattle.schema_semantics.specs.Names.{Name, OneOf}
use Rattle.schema_semantics.specs.Shapes.{Atom, value, instance, a_number, a_logical, a_string, a_binary, an_item, an_aggregate, IsSort}
use Rattle.schema_semantics.specs.Shapes as shapes
use Rattle.schema_names.specs.Numbers.{HasNumber, AreNumberRowsOf}
use Rattle.schema_names.specs.Edges.{IsGraphOf, parts_in}
use Rattle.schema_names.specs.Schemas.{the_schema}
use Rattle.schema_data_types.specs.declared.values.Sort.{Sort}
use Rattle.schema_data_types.specs.declared.values.Sort.TheVariants as sorts
use Rattle.schema_data_types.specs.declared.values.Atom.{Atom as Numbered}
use Rattle.schema_data_types.specs.declared.values.Atom.TheVariants as atoms
use Rattle.schema_data_types.specs.declared.values.Tables.{Tables}
use Rattle.schema_data_types.specs.declared.value_givers.Parts.{Parts}
use Rattle.schema_data_types.specs.steps.Gathering.{IsGathered}
use Rattle.schema_data_types.specs.steps.Giving.{own_row}
use Rattle.schema_data_types.specs.declared.value_givers.Wanted.TheVariants as wanted
use Rattle.schema_data_types.specs.NumberedTypes.{form_in, whole_types, all_data_types}

abbrev pub sort_of : Sort → shapes.Sort
sort_of sorts.Number = a_number
sort_of sorts.Logical = a_logical
sort_of sorts.String = a_string
sort_of sorts.Binary = a_binary
sort_of sorts.Item = an_item

-- The numbered atom represents the atom x: an aggregate has the number of the data type of its
-- elements.
abbrev pub IsMeant : Schema → Numbered → Atom → Type 0
IsMeant s (atoms.Value t w) x = x ≡ value (sort_of t) w
IsMeant s (atoms.Aggregate n w) x =
    (k : DataType) × (slice_get (all_data_types s) n ≡ Some k) × (x ≡ value (an_aggregate k) w)
IsMeant s (atoms.Instance i) x = (n : Name) × HasNumber s n i × (x ≡ instance n)

-- x is among the atoms that the list xs represents.
abbrev pub Holds : Schema → List Numbered → Atom → Type 0
Holds s xs x = OneOf (λ (a : Numbered). IsMeant s a x) xs

-- The list is extended by exactly the atoms for which P holds.
abbrev pub AddsAll : Schema → List Numbered → (Atom → Type 0) → List Numbered → Type 0
AddsAll s old P new = (x : Atom) → Holds s new x ↔ (Holds s old x ⊎ P x)

-- By declaration, the declarations that give values by themselves among it and those that it refers
-- to through names and SELECTs, and whether one of them is a SELECT
-- (ISO 10303-11, 8.3.2 and 8.4.2).
pub record AreParts (s : Schema) (t : Parts) : Type 0 where
  pub graph : Graph
  pub drawn : IsGraphOf s parts_in graph
  pub giving : IsGathered graph (own_row wanted.Giving s) (graph_of t.giving.items)
  pub selects : IsGathered graph (own_row wanted.Selects s) (graph_of t.selects.items)

-- The tables are those of the schema.
pub record AreTables (t : Tables) : Type 0 where
  pub forms : t.data_types.now.forms.items
      ≡ map (form_in (the_schema t.names.now)) (all_data_types (the_schema t.names.now))
  pub few : length t.data_types.now.forms.items < 2 ^ 32
  pub rows : AreNumberRowsOf whole_types (all_data_types (the_schema t.names.now))
      (the_schema t.names.now).declarations (graph_of t.data_types.now.rows.items)
  pub parts : AreParts (the_schema t.names.now) t.parts.now
