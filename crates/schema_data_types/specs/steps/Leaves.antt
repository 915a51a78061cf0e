-- The values that a data type gives by itself, without those of its name's declaration.
use Rattle.std.specs.Prelude.{◌≡◌, ℕ, ◌+◌, Bool, true, List, Option, None, Some, ◌⊎◌}
use Rattle.graphs.specs.Graphs.{has}
use Rattle.express_syntax.specs.Schemas.{Schema, DataType, named, data_type}
use Rattle.schema_semantics.specs.Names.{Name, StandsFor, IsEntity}
use Rattle.schema_semantics.specs.Shapes.{Atom, value, instance, IsSort}
use Rattle.schema_names.specs.Numbers.{HasNumber}
use Rattle.schema_data_types.specs.declared.forms.Form.{Form}
use Rattle.schema_data_types.specs.declared.forms.Form.TheVariants as forms
use Rattle.schema_data_types.specs.declared.values.Sort.TheVariants as sorts
use Rattle.schema_data_types.specs.declared.values.Atom.{Atom as Numbered}
use Rattle.schema_data_types.specs.declared.values.Atom.TheVariants as atoms

abbrev pub IsLeaf : DataType → Type 0
IsLeaf (named n) = ⊥
IsLeaf k = Unit {0}

-- The atoms of an unnamed data type; w says whether they are of a SELECT.
abbrev pub LeafGives : Schema → DataType → Bool → Atom → Type 0
LeafGives s k w (value t v) = (v ≡ w) × IsLeaf k × IsSort s k t
LeafGives s k w (instance m) = ⊥

-- The atoms that a name gives by itself: of an entity, an enumeration, or a defined type with an
-- unnamed data type.
abbrev pub Gives : Schema → Name → Bool → Atom → Type 0
Gives s n w (value t v) =
    (v ≡ w) × (IsSort s (named n) t ⊎ ((k : DataType) × StandsFor s n (data_type k) × IsLeaf k × IsSort s k t))
Gives s n w (instance m) = (m ≡ n) × IsEntity s n

-- The atoms of one of the names that have these numbers.
abbrev pub OneGives : Schema → List ℕ → Bool → Atom → Type 0
OneGives s row w x = (j : ℕ) × (has row j ≡ true) × (n : Name) × HasNumber s n j × Gives s n w x

-- The numbered atom of an unnamed data type, from its form and its number.
abbrev pub leaf_atom : Form → ℕ → Bool → Option Numbered
leaf_atom forms.Number n w = Some (atoms.Value sorts.Number w)
leaf_atom forms.Logical n w = Some (atoms.Value sorts.Logical w)
leaf_atom forms.String n w = Some (atoms.Value sorts.String w)
leaf_atom forms.Binary n w = Some (atoms.Value sorts.Binary w)
leaf_atom forms.Array n w = Some (atoms.Aggregate (n + 1) w)
leaf_atom forms.List n w = Some (atoms.Aggregate (n + 1) w)
leaf_atom forms.Collection n w = Some (atoms.Aggregate (n + 1) w)
leaf_atom (forms.Named i) n w = None
