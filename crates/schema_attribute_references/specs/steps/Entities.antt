-- The entities among atoms, by number.
use Rattle.std.specs.Prelude.{ℕ, List, ◌∷◌, Option, None, Some, filter_map, flat_map}
use Rattle.graphs.specs.Graphs.{Graph, next}
use Rattle.express_syntax.specs.Schemas.{Schema}
use Rattle.schema_semantics.specs.Names.{OneOf}
use Rattle.schema_semantics.specs.Shapes.{value, instance}
use Rattle.schema_semantics.specs.Sets.{Set}
use Rattle.schema_names.specs.Numbers.{HasNumber}
use Rattle.schema_data_types.specs.declared.values.Atom.{Atom as Numbered}
use Rattle.schema_data_types.specs.declared.values.Atom.TheVariants as atoms

abbrev pub entity_number : Numbered → Option ℕ
entity_number (atoms.Value t w) = None
entity_number (atoms.Aggregate n w) = None
entity_number (atoms.Instance i) = Some i

-- The numbers of the entities among atoms.
abbrev pub entity_numbers : List Numbered → List ℕ
entity_numbers xs = filter_map entity_number xs

abbrev pub with_next : Graph → ℕ → List ℕ
with_next below i = i ∷ next below i

-- Each entity, followed by its subtypes.
abbrev pub with_subtypes : Graph → List ℕ → List ℕ
with_subtypes below is = flat_map (with_next below) is

-- The set of instances of the entities with these numbers.
abbrev pub OfNumbers : Schema → List ℕ → Set
OfNumbers s is (value t w) = ⊥
OfNumbers s is (instance n) = OneOf (HasNumber s n) is
