-- The end of a list.
use Rattle.std.specs.Prelude.{◌≡◌, ℕ, ◌+◌, ◌++◌, length, take, drop}
use Rattle.parsing.specs.steps.Cells.{Cells}
use Rattle.parsing.specs.declared.column.Run.{Run}

-- the pending cells after `mark` move to the column's end, where they are this run
pub record Closes {C : Type 0} (old : Cells C) (mark : ℕ) (run : Run) (new : Cells C) : Type 0 where
  pub first : run.first ≡ length old.column
  pub count : mark + run.count ≡ length old.pending
  pub column : new.column ≡ old.column ++ drop mark old.pending
  pub pending : new.pending ≡ take mark old.pending
