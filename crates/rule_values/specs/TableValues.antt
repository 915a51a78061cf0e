-- The data of values, by tables of data types (ISO 10303-11, 8).
use Rattle.std.specs.Prelude.{ℕ, Bool, true, false, cond}
use Rattle.step_values.specs.Leaves as leaves
use Rattle.step_values.specs.Leaves.{Leaf}
use Rattle.step_values.specs.Values as values
use Rattle.step_values.specs.Values.{Value, leaf, reference, Values}
use Rattle.schema_semantics.specs.Names.{Name}
use Rattle.schema_underlying_types.specs.declared.base.Aggregate.{Aggregate}
use Rattle.schema_underlying_types.specs.declared.base.Base.{Base}
use Rattle.schema_underlying_types.specs.declared.base.Base.TheVariants as bases
use Rattle.schema_underlying_types.specs.declared.base.Collection.{Collection}
use Rattle.schema_underlying_types.specs.declared.base.Collection.TheVariants as collections
use Rattle.schema_underlying_types.specs.BaseEntries.{entry}
use Rattle.express_logic.specs.Data as data_of
use Rattle.express_logic.specs.Data.{Shape, list, bag, array, Datum, indeterminate, number, text, bits, logical, instance, typed, aggregate, Data, none, more}
use Rattle.conformance.specs.Values.{logical_of}
use Rattle.rule_values.specs.declared.types.ValueTypes.{ValueTypes}
use Rattle.rule_values.specs.declared.shape.Shape as coded
use Rattle.rule_values.specs.declared.shape.Shape.TheVariants as shapes
use Rattle.rule_values.specs.NamedValues.{found, or_integer, entry_in}

-- the underlying type of the data type numbered i
abbrev pub number_base : ValueTypes → ℕ → Base
number_base t i = entry t.by_number.now i

-- the underlying type of the type or entity called n
abbrev pub named_base : ValueTypes → Name → Base
named_base t n = or_integer (entry_in t.by_declaration.now (found t.numbers n))

-- the underlying type of the elements of an aggregate; any other type itself
abbrev pub element_base : ValueTypes → Base → Base
element_base t (bases.Aggregate a) = number_base t a.element
element_base t b = b

-- elements of this type are logicals
abbrev pub is_logical : Base → Bool
is_logical bases.Boolean = true
is_logical bases.Logical = true
is_logical b = false

abbrev pub coded_element : Base → Name → Datum
coded_element b e = cond (is_logical b) (logical (logical_of e)) (data_of.element e)

abbrev pub coded_leaf : Base → Leaf → Datum
coded_leaf b leaves.unset = indeterminate
coded_leaf b leaves.derived = indeterminate
coded_leaf b (leaves.number z) = number z
coded_leaf b (leaves.text s) = text s
coded_leaf b (leaves.bits s) = bits s
coded_leaf b (leaves.element e) = coded_element b e

abbrev pub collected : Collection → Aggregate → Shape
collected collections.Array a = array a.lower a.upper
collected c a = list

-- the shape of values with an order
abbrev pub coded_shape : Base → Shape
coded_shape (bases.Aggregate a) = collected a.collection a
coded_shape b = list

abbrev pub shape_seen : coded.Shape → Shape
shape_seen shapes.List = list
shape_seen shapes.Bag = bag
shape_seen (shapes.Array a) = array a.now.lower a.now.upper

module _ (t : ValueTypes) where
  -- the datum of a value of this type; the content of a typed value has the type that is named
  abbrev mutual
    pub coded_datum : Base → Value → Datum
    coded_datum b (leaf a) = coded_leaf b a
    coded_datum b (reference y) = instance y
    coded_datum b (values.typed n v) = typed n (coded_datum (named_base t n) v)
    coded_datum b (values.sequence vs) = aggregate (coded_shape b) (coded_each (element_base t b) vs)
    coded_datum b (values.bag vs) = aggregate bag (coded_each (element_base t b) vs)

    pub coded_each : Base → Values → Data
    coded_each b values.none = none
    coded_each b (values.more v vs) = more (coded_datum b v) (coded_each b vs)
