-- Flat values, which aren't typed values and whose elements have no parts, and the data types that have no others.
use Rattle.std.specs.Prelude.{Bool, true, false, ◌&&◌, Option, None, Some}
use Rattle.step_values.specs.declared.slot.Kind.{Kind}
use Rattle.step_values.specs.declared.slot.Kind.TheVariants as kinds
use Rattle.step_values.specs.steps.Slots.{kind_of}
use Rattle.step_values.specs.Values.{Value, typed, sequence, bag, Values, none, more}
use Rattle.schema_underlying_types.specs.declared.base.Base.{Base}
use Rattle.schema_underlying_types.specs.declared.base.Base.TheVariants as bases
use Rattle.rule_values.specs.declared.types.ValueTypes.{ValueTypes}
use Rattle.rule_values.specs.TableValues.{element_base}

-- values of this kind have no parts
abbrev pub is_plain : Kind → Bool
is_plain kinds.Typed = false
is_plain kinds.List = false
is_plain kinds.Bag = false
is_plain k = true

abbrev pub are_plain : Values → Bool
are_plain none = true
are_plain (more v vs) = is_plain (kind_of v) && are_plain vs

-- the value isn't a typed value, and none of its elements has parts
abbrev pub is_flat : Value → Bool
is_flat (typed n v) = false
is_flat (sequence vs) = are_plain vs
is_flat (bag vs) = are_plain vs
is_flat v = true

-- the value, if there is one, is flat
abbrev pub is_flat_at : Option Value → Bool
is_flat_at None = true
is_flat_at (Some v) = is_flat v

-- the values that fit this type have no parts
abbrev pub has_plain_values : Base → Bool
has_plain_values (bases.Select i) = false
has_plain_values (bases.Aggregate a) = false
has_plain_values b = true

-- the values that fit this type are flat
abbrev pub has_flat_values : ValueTypes → Base → Bool
has_flat_values t b = has_plain_values (element_base t b)
