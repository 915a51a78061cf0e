-- Values by their outermost parts.
use Rattle.std.specs.Prelude.{ℕ, zero, suc, Option, Some, None}
use Rattle.step_values.specs.declared.slot.Kind.{Kind}
use Rattle.step_values.specs.declared.slot.Kind.TheVariants as kinds
use Rattle.step_values.specs.declared.slot.Node.{Node}
use Rattle.step_values.specs.declared.slot.Node.TheVariants as nodes
use Rattle.step_values.specs.AgreementTests.{value_count}
use Rattle.step_values.specs.Leaves.{unset, derived, number, text, bits, element}
use Rattle.step_values.specs.Values.{Value, leaf, reference, typed, sequence, bag, Values, none, more}
use Rattle.step_values.specs.Views.{word_of, number_leaf, text_leaf, bits_leaf}

-- the value that an outermost part forms with what is inside it
abbrev pub node_value : Node → Value
node_value nodes.Unset = leaf unset
node_value nodes.Derived = leaf derived
node_value (nodes.Number d) = leaf (number_leaf d)
node_value (nodes.Text t) = leaf (text_leaf t)
node_value (nodes.Bits b) = leaf (bits_leaf b)
node_value (nodes.Element w) = leaf (element (word_of w))
node_value (nodes.Reference y row) = reference y
node_value (nodes.Typed w v) = typed (word_of w) v
node_value (nodes.Sequence vs) = sequence vs
node_value (nodes.Bag vs) = bag vs

abbrev pub kind_of : Value → Kind
kind_of (leaf unset) = kinds.Unset
kind_of (leaf derived) = kinds.Derived
kind_of (leaf (number z)) = kinds.Number
kind_of (leaf (text s)) = kinds.Text
kind_of (leaf (bits b)) = kinds.Bits
kind_of (leaf (element w)) = kinds.Element
kind_of (reference y) = kinds.Reference
kind_of (typed n v) = kinds.Typed
kind_of (sequence vs) = kinds.List
kind_of (bag vs) = kinds.Bag

-- the value at an index of a list, if any
abbrev pub nth : Values → ℕ → Option Value
nth none i = None
nth (more v vs) zero = Some v
nth (more v vs) (suc i) = nth vs i

-- the values directly inside a value
abbrev pub items : Value → Values
items (typed n v) = more v none
items (sequence vs) = vs
items (bag vs) = vs
items _ = none

abbrev pub len_of : Value → ℕ
len_of v = value_count (items v)

abbrev pub item_of : Value → ℕ → Option Value
item_of v i = nth (items v) i
