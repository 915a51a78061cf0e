-- Values of expressions (ISO 10303-11, 8 and 12): literals by their values, instances by their
-- names.
use Rattle.std.specs.Prelude.{ℕ, ℤ, Bool, true, false, List, Option}
use Rattle.step_literals.specs.declared.literal.items.Item.{Item}
use Rattle.express_syntax.specs.declared.expression.Logical.{Logical}
use Rattle.express_syntax.specs.declared.expression.Logical.TheVariants.{Unknown}

-- `list`: a LIST. `bag`: a SET or a BAG. `array`: an ARRAY with these declared indices; an index is
-- `None` if it isn't known.
pub data Shape : Type 0 where
  list : Shape
  bag : Shape
  array : Option ℤ → Option ℤ → Shape

-- `number`: a number in units of 10 ^ -1,000,400. `element`: an element of an enumeration in upper
-- case. `typed`: a value with the name of its type.
mutual
  pub data Datum : Type 0 where
    indeterminate : Datum
    number : ℤ → Datum
    text : List Item → Datum
    bits : List Bool → Datum
    element : List ℕ → Datum
    logical : Logical → Datum
    instance : ℕ → Datum
    typed : List ℕ → Datum → Datum
    aggregate : Shape → Data → Datum

  pub data Data : Type 0 where
    none : Data
    more : Datum → Data → Data

abbrev pub is_known : Datum → Bool
is_known indeterminate = false
is_known _ = true

-- the value as an operand of NOT, AND, OR and XOR, and as a condition: UNKNOWN if it is no logical
abbrev pub truth : Datum → Logical
truth (logical p) = p
truth _ = Unknown
