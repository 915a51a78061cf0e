-- The meanings of numbered entries.
use Rattle.std.specs.Prelude.{ℕ, List, [], Option, None, Some, slice_get}
use Rattle.std.specs.Option.{option_map}
use Rattle.express_syntax.specs.Schemas.{Schema, Declaration, type, Underlying, enumeration, DataType}
use Rattle.express_syntax.specs.Schemas as schemas
use Rattle.schema_semantics.specs.Names.{Name, declared_name}
use Rattle.schema_data_types.specs.NumberedTypes.{all_data_types}
use Rattle.conformance.specs.Bases as bases
use Rattle.schema_underlying_types.specs.declared.base.Limit.{Limit}
use Rattle.schema_underlying_types.specs.declared.base.Collection.{Collection}
use Rattle.schema_underlying_types.specs.declared.base.Collection.TheVariants as collections
use Rattle.schema_underlying_types.specs.declared.base.Aggregate.{Aggregate}
use Rattle.schema_underlying_types.specs.declared.base.Base.{Base}
use Rattle.schema_underlying_types.specs.declared.base.Base.TheVariants as variants
use Rattle.schema_underlying_types.specs.declared.lookup.Bases.{Bases}

abbrev pub or_empty : {A : Type 0} → Option (List A) → List A
or_empty None = []
or_empty (Some xs) = xs

abbrev pub name_in : Option Declaration → Name
name_in None = []
name_in (Some d) = or_empty (declared_name d)

-- The name of the type or entity with the number i.
abbrev pub name_at : Schema → ℕ → Name
name_at s i = name_in (slice_get s.declarations i)

abbrev pub items_of : Underlying → List Name
items_of (enumeration items) = items
items_of u = []

abbrev pub items_in : Option Declaration → List Name
items_in (Some (type t)) = items_of t.underlying
items_in d = []

-- The items of the enumeration with the number i.
abbrev pub items_at : Schema → ℕ → List Name
items_at s i = items_in (slice_get s.declarations i)

abbrev pub or_integer : Option DataType → DataType
or_integer None = schemas.integer
or_integer (Some k) = k

-- The data type with the number k.
abbrev pub type_at : Schema → ℕ → DataType
type_at s k = or_integer (slice_get (all_data_types s) k)

abbrev pub limit_seen : Limit → bases.Limit
limit_seen l = record { most = l.most; fixed = l.is_fixed }

abbrev pub collection_seen : Collection → bases.AggregateKind
collection_seen collections.Array = bases.array
collection_seen collections.List = bases.list
collection_seen collections.Bag = bases.bag
collection_seen collections.Set = bases.set

abbrev pub aggregate_seen : Schema → Aggregate → bases.Aggregate
aggregate_seen s a = record {
  collection = collection_seen a.collection;
  lower = a.lower;
  upper = a.upper;
  optional = a.is_optional;
  unique = a.is_unique;
  element = type_at s a.element;
}

abbrev pub base_seen : Schema → Base → bases.Base
base_seen s variants.Integer = bases.integer
base_seen s variants.Number = bases.number
base_seen s variants.Boolean = bases.boolean
base_seen s variants.Logical = bases.logical
base_seen s (variants.String l) = bases.string (option_map limit_seen l)
base_seen s (variants.Binary l) = bases.binary (option_map limit_seen l)
base_seen s (variants.Enumeration i) = bases.enumeration (items_at s i)
base_seen s (variants.Entity i) = bases.entity (name_at s i)
base_seen s (variants.Select i) = bases.select (name_at s i)
base_seen s (variants.Aggregate a) = bases.aggregate (aggregate_seen s a)
