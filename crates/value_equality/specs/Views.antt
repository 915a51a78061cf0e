-- The rows that rows of the program represent.
use Rattle.std.specs.Prelude.{ℕ, List, [], ◌∷◌, map, slice_get, Option, None, Some, Vec}
use Rattle.value_equality.specs.declared.row.PlainRow.{PlainRow}
use Rattle.value_equality.specs.declared.row.RowHead.{RowHead}
use Rattle.value_equality.specs.declared.row.RowSlot.{RowSlot}
use Rattle.step_literals.specs.declared.literal.Word.{Word}
use Rattle.step_values.specs.Views.{word_of, values_of}
use Rattle.step_values.specs.Values.{Values}
use Rattle.value_equality.specs.Rows.{Row}

abbrev pub row_of : PlainRow → Row
row_of r = record {
  name = r.name;
  section = r.section;
  types = map word_of r.types.items;
  values = values_of r.values.items;
}

abbrev pub rows_of : List PlainRow → List Row
rows_of rs = map row_of rs

-- The head of a row: its parts except the values.
pub record Head : Type 0 where
  pub name : ℕ
  pub section : ℕ
  pub types : List (List ℕ)

-- The head that a row of the program represents.
abbrev pub head_of : PlainRow → Head
head_of r = record { name = r.name; section = r.section; types = map word_of r.types.items }

-- The values that a row of the program represents.
abbrev pub values_within : PlainRow → Values
values_within r = values_of r.values.items

-- The lists of types that lists of the program represent.
abbrev pub type_lists_of : {Z : Type 0} → List (Vec Word Z) → List (List (List ℕ))
type_lists_of lists = map (λ ws. map word_of ws.items) lists

-- The list of types, if any, otherwise empty.
abbrev pub or_none : Option (List (List ℕ)) → List (List ℕ)
or_none None = []
or_none (Some types) = types

-- The list of types with the number `n`; empty if there is none.
abbrev pub types_at : List (List (List ℕ)) → ℕ → List (List ℕ)
types_at lists n = or_none (slice_get lists n)

-- The head that a head of the program represents, with its list of types.
abbrev pub head_seen : List (List (List ℕ)) → RowHead → Head
head_seen lists h = record { name = h.name; section = h.section; types = types_at lists h.type_list }

abbrev pub heads_seen : List (List (List ℕ)) → List RowHead → List Head
heads_seen lists hs = map (head_seen lists) hs

abbrev pub head_names : List RowHead → List ℕ
head_names hs = map (λ h. h.name) hs

abbrev pub row_from : Head → Values → Row
row_from h vs = record { name = h.name; section = h.section; types = h.types; values = vs }

-- The rows that have these heads and these lists of values, in order.
abbrev pub rows_from : List Head → List Values → List Row
rows_from [] rows = []
rows_from (h ∷ hs) [] = []
rows_from (h ∷ hs) (vs ∷ rows) = row_from h vs ∷ rows_from hs rows

abbrev pub row_seen : RowSlot → Row
row_seen r = record { name = r.name; section = r.section; types = map word_of r.types.now; values = r.values }
