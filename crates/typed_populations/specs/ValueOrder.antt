-- The order of the values of instances in plain rows.
use Rattle.std.specs.Prelude.{◌≡◌, ⊤, ℕ, List, [], ◌∷◌, Option, None, Some, IsPermutation, length, map, flat_map, slice_get}
use Rattle.std.specs.List.{AllZip, range_with_len}
use Rattle.std.specs.Option.{unwrap_or}
use Rattle.express_syntax.specs.Schemas.{Schema}
use Rattle.schema_semantics.specs.Attributes.{Place}
use Rattle.schema_explicit_attributes.specs.Places.{all_places}
use Rattle.population_rows.specs.Index.{place_of}
use Rattle.step_values.specs.AgreementTests.{value_count}
use Rattle.step_values.specs.steps.Slots.{nth}
use Rattle.step_values.specs.Values.{Value, Values, none, more}
use Rattle.step_values.specs.Views.{word_of}
use Rattle.step_exchange.specs.declared.structure.Exchange.{Exchange}
use Rattle.value_equality.specs.Views.{Head, heads_seen}
use Rattle.typed_populations.specs.Rows.{section_numbers}
use Rattle.value_equality.specs.SortedTypes.{AreInOrder}
use Rattle.value_equality.specs.declared.row.RowHead.{RowHead}
use Rattle.schema_underlying_types.specs.BaseViews.{name_at}
use Rattle.conformance.specs.Entities.{own_places_of}
use Rattle.population_rows.specs.declared.form.SlotForm.{SlotForm}
use Rattle.population_rows.specs.declared.form.Form.{Form}
use Rattle.typed_populations.specs.declared.value_order.Moves.{Moves}
use Rattle.typed_populations.specs.declared.value_order.Moves.TheVariants as moves
use Rattle.typed_populations.specs.declared.value_order.Order.{Order}
use Rattle.conformance.specs.PlainRows.{or_unset}

-- the position of the explicit attribute numbered q among those of a form, if any
abbrev pub position_among : List SlotForm → ℕ → Option ℕ
position_among xs q = place_of (map (λ (x : SlotForm). x.place) xs) q

-- o is the position of the attribute p among those of a form, if any
abbrev pub StandsAt : Schema → List SlotForm → Place → Option ℕ → Type 0
StandsAt s xs p o = (q : ℕ) × (slice_get (all_places s) q ≡ Some p) × (o ≡ position_among xs q)

-- os are the positions of the attributes ps
abbrev pub StandAt : Schema → List SlotForm → List Place → List (Option ℕ) → Type 0
StandAt s xs ps os = AllZip (StandsAt s xs) ps os

-- the moves fit the positions: values are kept if the positions count up from 0, and moved if each position occurs
-- once
abbrev pub AreMoves : List (Option ℕ) → Moves → Type 0
AreMoves os (moves.Kept n) = os ≡ map Some (range_with_len 0 n)
AreMoves os (moves.Moved ks) =
    (os ≡ map Some ks.items) × IsPermutation (range_with_len 0 (length ks.items)) ks.items
AreMoves os moves.Copied = ⊤

-- the moves of an order fit its positions
abbrev pub HasMoves : Order → Type 0
HasMoves o = AreMoves o.positions.items o.moves

-- The types of a form sorted by name, and the positions of the attributes that they declare, type by type.
pub record IsOrder (s : Schema) (x : Form) (o : Order) : Type 0 where
  pub types : AreInOrder (map (name_at s) x.types.items) (map word_of o.types.items)
  pub positions : StandAt s x.slots.items (flat_map (own_places_of s) (map word_of o.types.items)) o.positions.items
  pub moves : HasMoves o

abbrev pub AreOrders : Schema → List Form → List Order → Type 0
AreOrders s forms orders = AllZip (IsOrder s) forms orders

-- the value at a position, if any
abbrev pub picked_at : Values → Option ℕ → Option Value
picked_at vs None = None
picked_at vs (Some i) = nth vs i

-- the values at these positions; unset where there is no value
abbrev pub picked : Values → List (Option ℕ) → Values
picked vs [] = none
picked vs (o ∷ os) = more (or_unset (picked_at vs o)) (picked vs os)

-- the order with this number, if any
abbrev pub order_among : List Order → Option ℕ → Option Order
order_among orders None = None
order_among orders (Some n) = slice_get orders n

-- the values of an instance in this order; an instance without an order has no values
abbrev pub row_picked : Option Order → Values → Values
row_picked None vs = none
row_picked (Some o) vs = picked vs o.positions.items

-- the values of each instance in the order of its form, whose number is n
abbrev pub rows_picked : List Order → List (Option ℕ) → List Values → List Values
rows_picked orders (n ∷ ns) (vs ∷ rows) = row_picked (order_among orders n) vs ∷ rows_picked orders ns rows
rows_picked orders ns rows = []

-- the values can be moved: there is one for each position, or none if there is no order
abbrev pub FitMoves : Values → Moves → Type 0
FitMoves vs (moves.Kept n) = value_count vs ≡ n
FitMoves vs (moves.Moved ks) = value_count vs ≡ length ks.items
FitMoves vs moves.Copied = ⊥

abbrev pub CanMove : Option Order → Values → Type 0
CanMove None vs = value_count vs ≡ 0
CanMove (Some o) vs = FitMoves vs o.moves

-- the values of each row can be moved into the order of its form
abbrev pub AllCanMove : List Order → List (Option ℕ) → List Values → Type 0
AllCanMove orders ns rows =
    (i : ℕ) (n : Option ℕ) (vs : Values) → slice_get ns i ≡ Some n → slice_get rows i ≡ Some vs
    → CanMove (order_among orders n) vs

-- the types of an instance, sorted; empty for an instance without an order
abbrev pub types_in : Option Order → List (List ℕ)
types_in None = []
types_in (Some o) = map word_of o.types.items

-- the types of each order
abbrev pub types_each : List Order → List (List (List ℕ))
types_each orders = map (λ (o : Order). map word_of o.types.items) orders

-- The heads of the rows of instances, by their sections, names and form numbers. The list of an instance's types is
-- numbered like its form; instances without a form have the number formless.
abbrev pub heads_made : ℕ → List ℕ → List ℕ → List (Option ℕ) → List RowHead
heads_made formless (k ∷ ks) (y ∷ ys) (n ∷ ns) =
    record { name = y; section = k; type_list = unwrap_or n formless } ∷ heads_made formless ks ys ns
heads_made formless ks ys ns = []

-- The heads of the rows of a file's instances, whose form numbers are given, with the sorted types of each form.
abbrev pub sorted_heads : List Order → Exchange → List (Option ℕ) → List Head
sorted_heads orders x form_of =
    heads_seen (types_each orders) (heads_made (length orders) (section_numbers 0 0 x.sections.items) x.names form_of)
