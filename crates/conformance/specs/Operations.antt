-- The operators and the built-in functions of expressions (ISO 10303-11, 12 and 15).
use Rattle.std.specs.Prelude.{ℕ, ℤ, pos, ◌+ℤ◌, ◌^◌, int_lt, ◌&&◌, Bool, true, false, Option, Some, None, if◌then◌else◌}
use Rattle.std.specs.Ordering.{int_eq}
use Rattle.express_syntax.specs.declared.expression.Logical.{Logical}
use Rattle.express_syntax.specs.declared.expression.Logical.TheVariants.{True}
use Rattle.express_syntax.specs.declared.expression.Relation.{Relation}
use Rattle.express_syntax.specs.declared.expression.Relation.TheVariants as relations
use Rattle.express_syntax.specs.declared.expression.Limit.{Limit}
use Rattle.express_syntax.specs.declared.expression.Limit.TheVariants as limits
use Rattle.express_logic.specs.Logic.{negated}
use Rattle.express_logic.specs.Literals.{whole_units}
use Rattle.express_logic.specs.Data.{Shape, list, bag, array, Datum, indeterminate, number, typed, aggregate, Data, none, more, truth}
use Rattle.express_logic.specs.Comparison.{equal, less, member}
use Rattle.express_logic.specs.Holdings.{size_of}

-- The value itself, without the names of its defined types. A defined type is a specialization of
-- its underlying type, so its values may be used wherever values of the underlying type may (9.2.7
-- and 12.11).
abbrev pub bare : Datum → Datum
bare (typed n d) = bare d
bare d = d

-- The LOGICAL value of an operand of NOT, AND, OR or XOR, of a condition, or of a rule (12.4). A
-- value that isn't a LOGICAL is UNKNOWN.
abbrev pub says : Datum → Logical
says d = truth (bare d)

-- The whole number, if any, otherwise indeterminate.
abbrev pub whole : Option ℤ → Datum
whole (Some n) = number (whole_units n)
whole None = indeterminate

-- SIZEOF: the number of elements, unset ones included (15.22). It is indeterminate for a value that
-- isn't an aggregate.
abbrev pub size : Datum → Datum
size (aggregate s ds) = number (whole_units (pos (size_of ds)))
size d = indeterminate

-- HIINDEX: the declared upper index of an ARRAY, otherwise the size (15.11).
abbrev pub last_index : Shape → ℕ → Option ℤ
last_index (array low high) n = high
last_index s n = Some (pos n)

-- LOINDEX: the declared lower index of an ARRAY, otherwise 1 (15.17).
abbrev pub first_index : Shape → Option ℤ
first_index (array low high) = low
first_index s = Some (pos 1)

abbrev pub high_index : Datum → Datum
high_index (aggregate s ds) = whole (last_index s (size_of ds))
high_index d = indeterminate

abbrev pub low_index : Datum → Datum
low_index (aggregate s ds) = whole (first_index s)
low_index d = indeterminate

-- NVL: the first value, or the second if the first is indeterminate (15.18).
abbrev pub or_else : Datum → Datum → Datum
or_else indeterminate e = e
or_else d e = d

-- The integer is small enough for an index, which is a signed integer of 64 bits.
abbrev pub is_index : ℤ → Bool
is_index n = int_lt n (pos (2 ^ 63))

-- The element with the index `z` among elements of which the first has the index `index`; otherwise
-- indeterminate.
abbrev pub element_from : ℤ → ℤ → Data → Datum
element_from index z none = indeterminate
element_from index z (more d ds) =
    if is_index index && int_eq (whole_units index) z then d else element_from (index +ℤ pos 1) z ds

-- The only element; indeterminate if there isn't exactly one.
abbrev pub only : Data → Datum
only (more d none) = d
only ds = indeterminate

-- The element with the index `z`, if any, otherwise indeterminate (12.6.1). The elements of a SET
-- or BAG have no order, so only a single element has an index, 1. An ARRAY whose lower index isn't
-- known has no element.
abbrev pub element_of : Shape → ℤ → Data → Datum
element_of list z ds = element_from (pos 1) z ds
element_of bag z ds = if int_eq (whole_units (pos 1)) z then only ds else indeterminate
element_of (array (Some low) high) z ds = element_from low z ds
element_of (array None high) z ds = indeterminate

-- d[e]
abbrev pub indexed : Datum → Datum → Datum
indexed (aggregate s ds) (number z) = element_of s z ds
indexed d e = indeterminate

abbrev pub is_true : Logical → Bool
is_true True = true
is_true p = false

-- The elements for which the condition is TRUE, in order.
abbrev pub filtered : (Datum → Logical) → Data → Data
filtered condition none = none
filtered condition (more d ds) =
    if is_true (condition d) then more d (filtered condition ds) else filtered condition ds

-- The kind of aggregate that a QUERY yields: a LIST if the source is an ARRAY, otherwise that of
-- the source.
abbrev pub kept_shape : Shape → Shape
kept_shape (array low high) = list
kept_shape s = s

-- QUERY: of an aggregate, the elements for which the condition is TRUE; of any other value,
-- indeterminate (12.6.7).
abbrev pub queried : (Datum → Datum) → Datum → Datum
queried condition (aggregate s ds) = aggregate (kept_shape s) (filtered (λ d. says (condition d)) ds)
queried condition d = indeterminate

-- The LOGICAL value of a comparison of two values (12.2).
abbrev pub compared : Relation → Datum → Datum → Logical
compared relations.Equal d e = equal d e
compared relations.NotEqual d e = negated (equal d e)
compared relations.Less d e = less d e
compared relations.Greater d e = less e d
compared relations.LessOrEqual d e = negated (less e d)
compared relations.GreaterOrEqual d e = negated (less d e)
compared relations.In d e = member d e

-- The LOGICAL value of one of the two comparisons of an interval (12.2.4).
abbrev pub limited : Limit → Datum → Datum → Logical
limited limits.Less d e = less d e
limited limits.LessOrEqual d e = negated (less e d)
