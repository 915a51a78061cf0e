-- The cells of a column, and the pending cells.
use Rattle.std.specs.Prelude.{List}

pub record Cells (C : Type 0) : Type 0 where
  -- the cells of the column, in order
  pub column : List C
  -- the cells of lists that are still open, in the order in which they were pushed
  pub pending : List C
