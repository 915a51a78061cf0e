-- The tables of a schema's data types.
use Rattle.std.specs.Prelude.{◌≡◌, ℕ, Some, length, slice_get}
use Rattle.std.specs.List.Sorted.{IsNonDecreasing}
use Rattle.graphs.specs.Graphs.{graph_of, next, has}
use Rattle.express_syntax.specs.Schemas.{Schema, DataType}
use Rattle.express_syntax.specs.Profile.{Every}
use Rattle.schema_semantics.specs.Names.{Name}
use Rattle.schema_semantics.specs.Faults.{IsResolved, IsMet, demands_of_data_type}
use Rattle.schema_names.specs.Numbers.{HasNumber}
use Rattle.schema_names.specs.Schemas.{the_schema}
use Rattle.schema_data_types.specs.NumberedTypes.{all_data_types}
use Rattle.conformance.specs.Bases.{Domain, IsDomain, base}
use Rattle.schema_underlying_types.specs.declared.base.Base.{Base}
use Rattle.schema_underlying_types.specs.declared.base.Base.TheVariants.{Entity, Enumeration, Select, Aggregate}
use Rattle.schema_underlying_types.specs.declared.bases.BaseTypes.{BaseTypes}
use Rattle.schema_underlying_types.specs.declared.lookup.Bases.{Bases}
use Rattle.schema_underlying_types.specs.BaseViews.{name_at, type_at, base_seen}

-- The name in a data type, if any, is that of a type or an entity.
abbrev pub NamesKnownType : Schema → DataType → Type 0
NamesKnownType s k = Every (IsMet s) (demands_of_data_type k)

-- The number in an entry is that of a type or an entity, and the data type of elements is known.
abbrev pub IsNumberedBase : Schema → Base → Type 0
IsNumberedBase s (Entity i) = HasNumber s (name_at s i) i
IsNumberedBase s (Enumeration i) = HasNumber s (name_at s i) i
IsNumberedBase s (Select i) = HasNumber s (name_at s i) i
IsNumberedBase s (Aggregate a) = NamesKnownType s (type_at s a.element)
IsNumberedBase s b = Unit {0}

-- The schema has a meaning (a `Domain`), and the tables agree with it.
pub record AreBaseTypes (s : Schema) (t : BaseTypes) : Type 0 where
  pub exists : (d : Domain) × IsDomain s d
  pub count : length t.by_number.items ≡ length (all_data_types s)
  pub by_number : (d : Domain) → IsDomain s d → (i : ℕ) (k : DataType) → slice_get (all_data_types s) i ≡ Some k
      → NamesKnownType s k → (b : Base) × (slice_get t.by_number.items i ≡ Some b) × (base_seen s b ≡ base d k)
  pub by_declaration : (d : Domain) → IsDomain s d → (n : Name) (i : ℕ) → HasNumber s n i
      → (b : Base) × (slice_get t.by_declaration.items i ≡ Some b) × (base_seen s b ≡ d.of_name n)
  pub items : (d : Domain) → IsDomain s d → (m n : Name) (i j : ℕ) → HasNumber s m i → HasNumber s n j
      → has (next (graph_of t.items.items) i) j ≡ d.is_item m n
  pub sorted : (i : ℕ) → IsNonDecreasing (next (graph_of t.items.items) i)
  pub numbered : (i : ℕ) (b : Base) → slice_get t.by_number.items i ≡ Some b → IsNumberedBase s b
  pub declared : (i : ℕ) (b : Base) → slice_get t.by_declaration.items i ≡ Some b → IsNumberedBase s b

-- The tables are those of a schema whose names are resolved.
abbrev pub AreBases : Bases → Type 0
AreBases b = IsResolved (the_schema b.names.now) × AreBaseTypes (the_schema b.names.now) b.table.now
