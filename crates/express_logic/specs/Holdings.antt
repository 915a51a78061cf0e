-- The contents of a typed value or an aggregate.
use Rattle.std.specs.Prelude.{ℕ, zero, suc, List, Option, Some, None}
use Rattle.express_logic.specs.Data.{Data, none, more}
use Rattle.express_logic.specs.Data as data_of

-- a type's name and a value, or a shape and elements
pub record Holding : Type 0 where
  pub name : List ℕ
  pub inner : data_of.Datum
  pub shape : data_of.Shape
  pub elements : Data

abbrev pub size_of : Data → ℕ
size_of none = 0
size_of (more d ds) = suc (size_of ds)

-- the element at an index, counted from 0, if any
abbrev pub element_at : ℕ → Data → Option data_of.Datum
element_at n none = None
element_at zero (more d ds) = Some d
element_at (suc n) (more d ds) = element_at n ds
