-- The law of cells of parameters.
use Rattle.std.specs.Prelude.{ℕ, List}
use Rattle.parsing.specs.Nodes.{AsksChildrenAlone}
use Rattle.step_records.specs.Cells.{parameters}

-- The parameter of a cell depends only on the cells inside it, whatever the text.
abbrev pub CellsAskTheirChildren : Type 0
CellsAskTheirChildren = (text : List ℕ) → AsksChildrenAlone (parameters text)
