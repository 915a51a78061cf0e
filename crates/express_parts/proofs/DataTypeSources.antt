-- A data type's passages are of a text where those of its parts are.
use Rattle.std.proofs.Common.{ℕ, List, Option, Bool, Box, Global, refl, subst}
use Rattle.step_literals.specs.declared.literal.Word.{Word}
use Rattle.express_syntax.specs.declared.tree.Bounds.{Bounds}
use Rattle.express_syntax.specs.declared.tree.Width.{Width}
use Rattle.express_syntax.specs.declared.tree.FixedWidth.{FixedWidth}
use Rattle.express_syntax.specs.declared.tree.DataType.{DataType}
use Rattle.express_syntax.specs.declared.tree.DataType.TheVariants as kinds
use Rattle.express_syntax.specs.declared.tree.DataType.TheOpen.{DataType-F}
use Rattle.express_syntax.specs.declared.tree.DataType.TheOpen as layer
use Rattle.express_syntax.specs.declared.tree.DataType.TheFolds.{every_made-DataType}
use Rattle.express_syntax.specs.Profile.{Maybe}
use Rattle.express_syntax.specs.Sources.{IsBoundsOf, IsWidthOf, IsFixedWidthOf, IsLayerOf, IsDataTypeOf}

-- a data type, with what is known of it
abbrev Known : List ℕ → Type 0
Known t = (k : DataType) × IsDataTypeOf t k

abbrev known : (t : List ℕ) (k : Box DataType Global) → IsDataTypeOf t k.value → Box (Known t) Global
known t k h = record { ptr = k.ptr; alloc = k.alloc; value = (k.value, h) }

pub integer_of : (t : List ℕ) → IsDataTypeOf t kinds.Integer
integer_of t = subst (IsDataTypeOf t) kinds.rolls-Integer
    (every_made-DataType (IsLayerOf t) layer.Integer layer.Integer refl tt)

pub number_of : (t : List ℕ) → IsDataTypeOf t kinds.Number
number_of t = subst (IsDataTypeOf t) kinds.rolls-Number
    (every_made-DataType (IsLayerOf t) layer.Number layer.Number refl tt)

pub boolean_of : (t : List ℕ) → IsDataTypeOf t kinds.Boolean
boolean_of t = subst (IsDataTypeOf t) kinds.rolls-Boolean
    (every_made-DataType (IsLayerOf t) layer.Boolean layer.Boolean refl tt)

pub logical_of : (t : List ℕ) → IsDataTypeOf t kinds.Logical
logical_of t = subst (IsDataTypeOf t) kinds.rolls-Logical
    (every_made-DataType (IsLayerOf t) layer.Logical layer.Logical refl tt)

pub real_of : (t : List ℕ) (w : Option (Box Width Global)) → Maybe (λ b. IsWidthOf t b.value) w
    → IsDataTypeOf t (kinds.Real w)
real_of t w h = subst (IsDataTypeOf t) (kinds.rolls-Real w) (every_made-DataType (IsLayerOf t) (layer.Real w)
    (layer.Real w) refl h)

pub string_of : (t : List ℕ) (w : Option (Box FixedWidth Global)) → Maybe (λ b. IsFixedWidthOf t b.value) w
    → IsDataTypeOf t (kinds.String w)
string_of t w h = subst (IsDataTypeOf t) (kinds.rolls-String w) (every_made-DataType (IsLayerOf t) (layer.String w)
    (layer.String w) refl h)

pub binary_of : (t : List ℕ) (w : Option (Box FixedWidth Global)) → Maybe (λ b. IsFixedWidthOf t b.value) w
    → IsDataTypeOf t (kinds.Binary w)
binary_of t w h = subst (IsDataTypeOf t) (kinds.rolls-Binary w) (every_made-DataType (IsLayerOf t) (layer.Binary w)
    (layer.Binary w) refl h)

pub named_of : (t : List ℕ) (w : Word) → IsDataTypeOf t (kinds.Named w)
named_of t w = subst (IsDataTypeOf t) (kinds.rolls-Named w) (every_made-DataType (IsLayerOf t) (layer.Named w)
    (layer.Named w) refl tt)

pub array_of : (t : List ℕ) (o u : Bool) (b : Box Bounds Global) (k : Box DataType Global) → IsBoundsOf t b.value
    → IsDataTypeOf t k.value → IsDataTypeOf t (kinds.Array o u b k)
array_of t o u b k h i = subst (IsDataTypeOf t) (kinds.rolls-Array o u b k) (every_made-DataType (IsLayerOf t)
    (layer.Array o u b k) (layer.Array o u b (known t k i)) refl h)

pub list_of : (t : List ℕ) (u : Bool) (b : Box (Option Bounds) Global) (k : Box DataType Global)
    → Maybe (IsBoundsOf t) b.value
    → IsDataTypeOf t k.value → IsDataTypeOf t (kinds.List u b k)
list_of t u b k h i = subst (IsDataTypeOf t) (kinds.rolls-List u b k) (every_made-DataType (IsLayerOf t)
    (layer.List u b k) (layer.List u b (known t k i)) refl h)

pub bag_of : (t : List ℕ) (b : Box (Option Bounds) Global) (k : Box DataType Global) → Maybe (IsBoundsOf t) b.value
    → IsDataTypeOf t k.value → IsDataTypeOf t (kinds.Bag b k)
bag_of t b k h i = subst (IsDataTypeOf t) (kinds.rolls-Bag b k) (every_made-DataType (IsLayerOf t) (layer.Bag b k)
    (layer.Bag b (known t k i)) refl h)

pub set_of : (t : List ℕ) (b : Box (Option Bounds) Global) (k : Box DataType Global) → Maybe (IsBoundsOf t) b.value
    → IsDataTypeOf t k.value → IsDataTypeOf t (kinds.Set b k)
set_of t b k h i = subst (IsDataTypeOf t) (kinds.rolls-Set b k) (every_made-DataType (IsLayerOf t) (layer.Set b k)
    (layer.Set b (known t k i)) refl h)
