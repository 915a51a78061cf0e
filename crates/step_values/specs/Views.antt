-- The values that the types of the program represent.
use Rattle.std.specs.Prelude.{ℕ, List, [], ◌∷◌, map}
use Rattle.step_literals.specs.declared.literal.Word.{Word}
use Rattle.step_literals.specs.declared.literal.Decimal.{Decimal}
use Rattle.step_literals.specs.declared.literal.Text.{Text}
use Rattle.step_literals.specs.declared.literal.Bits.{Bits}
use Rattle.step_values.specs.declared.value.PlainValue.{PlainValue}
use Rattle.step_values.specs.declared.value.PlainValue.TheOpen.{PlainValue-F}
use Rattle.step_values.specs.declared.value.PlainValue.TheOpen as layer
use Rattle.step_values.specs.declared.value.PlainValue.TheFolds.{fold-PlainValue}
use Rattle.step_literals.specs.Bits.{bits_of}
use Rattle.step_literals.specs.Decimals.{units}
use Rattle.step_literals.specs.Items.{string_items}
use Rattle.step_literals.specs.Words.{upper}
use Rattle.step_values.specs.Leaves.{Leaf, unset, derived, number, text, bits, element}
use Rattle.step_values.specs.Values.{Value, leaf, reference, typed, sequence, bag, Values, none, more}

abbrev pub all_of : List Value → Values
all_of [] = none
all_of (v ∷ vs) = more v (all_of vs)

abbrev pub word_of : Word → List ℕ
word_of w = upper w.text.now

-- the leaves that literals represent
abbrev pub number_leaf : Decimal → Leaf
number_leaf d = number (units d.text.now)

abbrev pub text_leaf : Text → Leaf
text_leaf t = text (string_items t.text.now)

abbrev pub bits_leaf : Bits → Leaf
bits_leaf b = bits (bits_of b.text.now)

-- a value whose inner values are already converted
abbrev pub value_step : PlainValue-F Value → Value
value_step layer.Unset = leaf unset
value_step layer.Derived = leaf derived
value_step (layer.Number d) = leaf (number_leaf d)
value_step (layer.Text t) = leaf (text_leaf t)
value_step (layer.Bits b) = leaf (bits_leaf b)
value_step (layer.Element w) = leaf (element (word_of w))
value_step (layer.Reference y) = reference y
value_step (layer.Typed w v) = typed (word_of w) v.value
value_step (layer.Sequence vs) = sequence (all_of vs.items)
value_step (layer.Bag vs) = bag (all_of vs.items)

abbrev pub value_of : PlainValue → Value
value_of = fold-PlainValue Value value_step

abbrev pub values_of : List PlainValue → Values
values_of vs = all_of (map value_of vs)
