-- Laws of columns, whatever their cells mean.
use Rattle.std.specs.Prelude.{◌≡◌, ℕ, List, length, Some, slice_get}
use Rattle.parsing.specs.Nodes.{Nodes, AsksChildrenAlone, said_at, IsColumn, AreBefore, GoesOn}

-- the value at an index is the value of the cell there
abbrev pub EachPlaceSaysItsCell : Type 0 → Type 0 → Type 0
EachPlaceSaysItsCell C T =
    (nodes : Nodes C T) → AsksChildrenAlone nodes → (column : List C) → IsColumn nodes column
    → (i : ℕ) (c : C) → slice_get column i ≡ Some c → said_at nodes column i ≡ nodes.says (said_at nodes column) c

-- Pending cells whose children are in the column keep their values when they are appended, and the values in
-- the column don't change.
abbrev pub ColumnsGoOn : Type 0 → Type 0 → Type 0
ColumnsGoOn C T =
    (nodes : Nodes C T) → AsksChildrenAlone nodes → (old cs : List C) → IsColumn nodes old
    → AreBefore nodes (length old) cs → GoesOn nodes old cs
