-- What the code computes; no promise stands here. Heads with a list of types each, and the ordering
-- of types.
use Rattle.std.specs.Prelude.{ℕ, suc, List, [], ◌∷◌, map, Vec}
use Rattle.step_literals.specs.declared.literal.Word.{Word}
use Rattle.step_values.specs.Values.{Values}
use Rattle.step_values.specs.Views.{word_of}
use Rattle.value_equality.specs.declared.row.PlainRow.{PlainRow}
use Rattle.value_equality.specs.declared.row.RowHead.{RowHead}
use Rattle.value_equality.specs.SortedTypes.{AreInOrder, IsSettled}
use Rattle.value_equality.specs.Views.{Head, row_from}

-- The heads of rows, each with the number of its list of types.
abbrev pub numbered_heads : ℕ → List PlainRow → List RowHead
numbered_heads n [] = []
numbered_heads n (r ∷ rows) =
    record { name = r.name; section = r.section; type_list = n } ∷ numbered_heads (suc n) rows

-- The list of types of each row.
abbrev pub type_lists_within : List PlainRow → List (List (List ℕ))
type_lists_within rows = map (λ r. map word_of r.types.items) rows

-- `new` has the words of `old`, in order and without repeats.
abbrev pub SettlesTypes : {Z : Type 0} → Vec Word Z → Vec Word Z → Type 0
SettlesTypes old new = AreInOrder (map word_of old.items) (map word_of new.items)

-- A row with the head `h`, settled, has the head `g`, whatever its values.
abbrev pub SettlesHead : Head → Head → Type 0
SettlesHead h g = (vs : Values) → IsSettled (row_from h vs) (row_from g vs)
