-- Where a text has the normal text of trees.
use Rattle.std.specs.Prelude.{◌≡◌, ◌≤◌, ◌++◌, ℕ, true, List, length, drop}
use Rattle.step_structures.specs.Trees.{Tree}
use Rattle.step_structures.specs.Normal.{plain_tree, plain_trees}
use Rattle.step_records.specs.Cells.{all_of}
use Rattle.step_records.specs.Params.{is_literal_tree, are_literals}

-- a text has these bytes from one byte offset up to another
pub record IsAt (text bytes : List ℕ) (from end : ℕ) : Type 0 where
  pub before : from ≤ end
  pub within : end ≤ length text
  pub reads : drop from text ≡ bytes ++ drop end text

-- a text has the normal text of a literal tree from one byte offset up to another
abbrev pub Stands : List ℕ → Tree → ℕ → ℕ → Type 0
Stands text t from end = IsAt text (plain_tree t) from end × (is_literal_tree t ≡ true)

-- a text has the normal text of adjacent literal trees from one byte offset up to another
abbrev pub AreStanding : List ℕ → List Tree → ℕ → ℕ → Type 0
AreStanding text ts from end = IsAt text (plain_trees (all_of ts)) from end × (are_literals (all_of ts) ≡ true)
