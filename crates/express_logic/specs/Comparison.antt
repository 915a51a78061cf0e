-- Comparison of values and membership (ISO 10303-11, 12.2). The result is UNKNOWN if a side is
-- indeterminate, an instance or an aggregate, or if the kinds differ. It is this project's choice
-- that only numbers and logicals have an order.
use Rattle.std.specs.Prelude.{ℕ, ℤ, ◌==◌, ◌&&◌, Bool, false, List, nat_lt, int_lt, if◌then◌else◌}
use Rattle.std.specs.Bool.{beq}
use Rattle.std.specs.Ordering.{int_eq}
use Rattle.std.specs.Str.{bytes_eq}
use Rattle.std.specs.Cmp.Lexicographic.{pointwise}
use Rattle.step_literals.specs.declared.literal.items.Item.{Item}
use Rattle.step_literals.specs.declared.literal.items.Item.TheVariants.{Code, Page, Raw}
use Rattle.express_syntax.specs.declared.expression.Logical.{Logical}
use Rattle.express_syntax.specs.declared.expression.Logical.TheVariants.{False, Unknown}
use Rattle.express_logic.specs.Logic.{either, known, rank}
use Rattle.express_logic.specs.Data.{Datum, number, text, bits, element, logical, typed, aggregate, Data, none, more, is_known}

-- the part of a value that is compared
pub data Scalar : Type 0 where
  a_number : ℤ → Scalar
  a_text : List Item → Scalar
  some_bits : List Bool → Scalar
  an_element : List ℕ → Scalar
  a_logical : Logical → Scalar
  nothing : Scalar

-- a typed value is compared by its inner value
abbrev pub scalar : Datum → Scalar
scalar (number z) = a_number z
scalar (text s) = a_text s
scalar (bits b) = some_bits b
scalar (element e) = an_element e
scalar (logical p) = a_logical p
scalar (typed n d) = scalar d
scalar _ = nothing

-- whether two characters are equal
abbrev pub same_item : Item → Item → Bool
same_item (Code c) (Code d) = c == d
same_item (Page p b) (Page q c) = (p == q) && (b == c)
same_item (Raw b) (Raw c) = b == c
same_item _ _ = false

-- strings and binaries are equal if they are so position by position (12.2.1.2 and 12.2.1.4)
abbrev pub same_text : List Item → List Item → Bool
same_text s t = pointwise same_item s t

abbrev pub same_bits : List Bool → List Bool → Bool
same_bits b c = pointwise beq b c

abbrev pub equal_scalars : Scalar → Scalar → Logical
equal_scalars (a_number y) (a_number z) = known (int_eq y z)
equal_scalars (a_text s) (a_text t) = known (same_text s t)
equal_scalars (some_bits b) (some_bits c) = known (same_bits b c)
equal_scalars (an_element d) (an_element e) = known (bytes_eq d e)
equal_scalars (a_logical p) (a_logical q) = known (rank p == rank q)
equal_scalars _ _ = Unknown

-- numbers and logicals have an order (12.2.1.1 and 12.2.1.3)
abbrev pub less_scalars : Scalar → Scalar → Logical
less_scalars (a_number y) (a_number z) = known (int_lt y z)
less_scalars (a_logical p) (a_logical q) = known (nat_lt (rank p) (rank q))
less_scalars _ _ = Unknown

abbrev pub equal : Datum → Datum → Logical
equal d e = equal_scalars (scalar d) (scalar e)

abbrev pub less : Datum → Datum → Logical
less d e = less_scalars (scalar d) (scalar e)

-- the OR of the comparisons with each element
abbrev pub among : Datum → Data → Logical
among d none = False
among d (more e es) = either (equal d e) (among d es)

abbrev pub among_elements : Datum → Datum → Logical
among_elements d (aggregate s es) = among d es
among_elements d _ = Unknown

-- IN (12.2.3)
abbrev pub member : Datum → Datum → Logical
member d e = if is_known d then among_elements d e else Unknown
