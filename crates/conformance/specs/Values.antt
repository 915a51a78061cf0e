-- How expressions see the values of a population, by the data types that are declared for them
-- (ISO 10303-11, 8).
use Rattle.std.specs.Prelude.{cond, codes, bytes_eq, map, Option, Some, None}
use Rattle.step_values.specs.Leaves as leaves
use Rattle.step_values.specs.Leaves.{Leaf}
use Rattle.step_values.specs.Values as values
use Rattle.step_values.specs.Values.{Value, leaf, reference, Values}
use Rattle.express_syntax.specs.declared.expression.Logical.{Logical}
use Rattle.express_syntax.specs.declared.expression.Logical.TheVariants.{False, Unknown, True}
use Rattle.express_syntax.specs.Schemas.{Schema, Explicit, named}
use Rattle.schema_semantics.specs.Names.{Name}
use Rattle.schema_semantics.specs.Attributes.{Place}
use Rattle.conformance.specs.Bases as bases
use Rattle.conformance.specs.Bases.{Base, Domain, base}
use Rattle.conformance.specs.ParameterFits.{is_array, element}
use Rattle.conformance.specs.Entities.{Entities}
use Rattle.conformance.specs.Populations.{first_base}
use Rattle.express_logic.specs.Data as data_of
use Rattle.express_logic.specs.Data.{Shape, list, bag, array, Datum, indeterminate, number, text, bits, logical, instance, typed, aggregate, Data, none, more}

-- The LOGICAL value of `.T.`, `.F.` or `.U.` (ISO 10303-21, 11.1). Any other word is UNKNOWN.
abbrev pub logical_of : Name → Logical
logical_of e = cond (bytes_eq e (codes "T")) True (cond (bytes_eq e (codes "F")) False Unknown)

-- A word between dots is a LOGICAL value if the data type is BOOLEAN or LOGICAL, otherwise an item
-- of an enumeration.
abbrev pub element_datum : Base → Name → Datum
element_datum bases.boolean e = logical (logical_of e)
element_datum bases.logical e = logical (logical_of e)
element_datum b e = data_of.element e

abbrev pub leaf_datum : Base → Leaf → Datum
leaf_datum b leaves.unset = indeterminate
leaf_datum b leaves.derived = indeterminate
leaf_datum b (leaves.number z) = number z
leaf_datum b (leaves.text s) = text s
leaf_datum b (leaves.bits s) = bits s
leaf_datum b (leaves.element e) = element_datum b e

-- A value with an order is an ARRAY with the indices of its data type, otherwise a LIST.
abbrev pub shape_of : Base → Shape
shape_of (bases.aggregate a) = cond (is_array a.collection) (array a.lower a.upper) list
shape_of b = list

module _ (s : Schema) (d : Domain) where
  -- The value of an expression for a value of this data type. The value inside a typed parameter is
  -- of the defined type that the parameter names.
  abbrev mutual
    pub datum : Base → Value → Datum
    datum b (leaf a) = leaf_datum b a
    datum b (reference y) = instance y
    datum b (values.typed n v) = typed n (datum (base d (named n)) v)
    datum b (values.sequence vs) = aggregate (shape_of b) (each_datum (element s d b) vs)
    datum b (values.bag vs) = aggregate bag (each_datum (element s d b) vs)

    pub each_datum : Base → Values → Data
    each_datum b values.none = none
    each_datum b (values.more v vs) = more (datum b v) (each_datum b vs)

  -- The value of an expression for the value of an attribute, if any, otherwise indeterminate.
  abbrev pub datum_at : Base → Option Value → Datum
  datum_at b None = indeterminate
  datum_at b (Some v) = datum b v

  -- The data type with which the entity of `p` declares the explicit attribute. Expressions take
  -- the attribute's value by this declaration, even if a subtype redeclares the attribute
  -- (ISO 10303-11, 9.2.3.4).
  abbrev pub first_declared : Entities → Place → Base
  first_declared en p = first_base s d en (map (λ (x : Explicit). x.data_type) (en.declarations p.0 p))
