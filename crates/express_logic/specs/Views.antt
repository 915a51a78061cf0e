-- The values that the types of the program represent.
use Rattle.std.specs.Prelude.{ℤ, Bool, List, neg_ℤ}
use Rattle.step_literals.specs.Bits.{bits_of}
use Rattle.step_literals.specs.Decimals.{units, turned}
use Rattle.step_literals.specs.Items.{string_items}
use Rattle.step_literals.specs.Words.{upper}
use Rattle.step_literals.specs.declared.literal.items.Item.{Item}
use Rattle.express_logic.specs.declared.binaries.AnyBinary.{AnyBinary}
use Rattle.express_logic.specs.declared.binaries.AnyBinary.TheVariants as binaries
use Rattle.express_logic.specs.declared.datum.Datum.{Datum}
use Rattle.express_logic.specs.declared.datum.Datum.TheVariants as variants
use Rattle.express_logic.specs.declared.numbers.AnyNumber.{AnyNumber}
use Rattle.express_logic.specs.declared.numbers.AnyNumber.TheVariants as numbers
use Rattle.express_logic.specs.declared.scalar.Scalar.{Scalar}
use Rattle.express_logic.specs.declared.scalar.Scalar.TheVariants as scalars
use Rattle.express_logic.specs.declared.strings.AnyString.{AnyString}
use Rattle.express_logic.specs.declared.strings.AnyString.TheVariants as strings
use Rattle.express_logic.specs.Literals.{simple_characters, encoded_characters, binary_bits, whole_units}
use Rattle.express_logic.specs.Data as data_of
use Rattle.express_logic.specs.Comparison as of
use Rattle.express_logic.specs.Holdings.{Holding}

-- the value of a number, in units
abbrev pub worth : AnyNumber → ℤ
worth (numbers.Written d is_negated) = turned is_negated (units d.text.now)
worth (numbers.Count n) = whole_units n

abbrev pub text_of : AnyString → List Item
text_of (strings.Exchange t) = string_items t.text.now
text_of (strings.Simple s) = simple_characters s.text.now
text_of (strings.Encoded s) = encoded_characters s.text.now

abbrev pub bits_of_any : AnyBinary → List Bool
bits_of_any (binaries.Exchange b) = bits_of b.text.now
bits_of_any (binaries.Schema b) = binary_bits b.text.now

abbrev pub scalar_of : Scalar → of.Scalar
scalar_of (scalars.Number n) = of.a_number (worth n)
scalar_of (scalars.String s) = of.a_text (text_of s)
scalar_of (scalars.Binary b) = of.some_bits (bits_of_any b)
scalar_of (scalars.Element w) = of.an_element (upper w.text.now)
scalar_of (scalars.Logical p) = of.a_logical p
scalar_of scalars.Nothing = of.nothing

-- the value of an expression, if `held` maps each holder to its content
abbrev pub datum_of : {V : Type 0} → (V → Holding) → Datum V → data_of.Datum
datum_of held variants.Indeterminate = data_of.indeterminate
datum_of held (variants.Number d) = data_of.number (units d.text.now)
datum_of held (variants.Minus d) = data_of.number (neg_ℤ (units d.text.now))
datum_of held (variants.Count n) = data_of.number (whole_units n)
datum_of held (variants.Text t) = data_of.text (string_items t.text.now)
datum_of held (variants.Items s) = data_of.text (simple_characters s.text.now)
datum_of held (variants.Encoded s) = data_of.text (encoded_characters s.text.now)
datum_of held (variants.Bits b) = data_of.bits (bits_of b.text.now)
datum_of held (variants.Flags b) = data_of.bits (binary_bits b.text.now)
datum_of held (variants.Element w) = data_of.element (upper w.text.now)
datum_of held (variants.Logical p) = data_of.logical p
datum_of held (variants.Instance x) = data_of.instance x
datum_of held (variants.Typed v) = data_of.typed (held v).name (held v).inner
datum_of held (variants.Aggregate v) = data_of.aggregate (held v).shape (held v).elements
