-- What the code computes; no promise stands here. Intermediate states of the refinement.
use Rattle.std.specs.Prelude.{◌≡◌, ◌<◌, ◌^◌, ◌↔◌, ℕ, Bool, List, length, slice_index}
use Rattle.partitions.specs.Layouts.{Layout, size, class_in, IsLaid, NoneIsChosen}
use Rattle.partition_edges.specs.declared.edges.Edge.{Edge}
use Rattle.partition_refinement.specs.Rounds.{IsRefined}
use Rattle.partition_refinement.specs.declared.numbering.Origin.{Origin}
use Rattle.value_equality.specs.ValueEquality.{AreAlike}
use Rattle.value_equality.specs.Rows.{Row, names}
use Rattle.value_equality.specs.Standard.{IsStandard}
use Rattle.merge_classes.specs.Laws.{table_of}
use Rattle.row_signatures.specs.steps.Signatures.{AreReferences, AreShapes}
use Rattle.merge_classes.specs.steps.ComputedFirsts.{AreFirsts}

-- positions share a class exactly if their rows are alike
pub record IsByKinds (rows : List Row) (pinned : ℕ → Bool) (p : Layout) : Type 0 where
  pub laid : IsLaid p
  pub settled : NoneIsChosen p
  pub places : size p ≡ length rows
  pub parts : (x z : ℕ) → x < size p → z < size p → (class_in p x ≡ class_in p z)
      ↔ AreAlike rows pinned (slice_index (names rows) x) (slice_index (names rows) z)

-- the classes of `start`, refined by the references and shapes of rows
pub record IsByValues (rows : List Row) (pinned : ℕ → Bool) (start p : Layout) (counts : List ℕ) : Type 0 where
  pub edges : List Edge
  pub shapes : List ℕ
  pub references : AreReferences rows edges
  pub shaped : AreShapes rows pinned shapes
  pub refined : IsRefined edges shapes start p counts

-- the classes of round 0, refined by the references and shapes of rows
pub record IsParted (rows : List Row) (pinned : ℕ → Bool) (p : Layout) (counts : List ℕ) : Type 0 where
  pub start : Layout
  pub kinds : IsByKinds rows pinned start
  pub values : IsByValues rows pinned start p counts

-- the numbers of positions form the standard table
pub record IsFound (rows : List Row) (pinned : ℕ → Bool) (last : ℕ) (firsts : List ℕ) (origins : List Origin)
    (members : List ℕ) : Type 0 where
  pub each : length members ≡ length rows
  pub few : length origins < 2 ^ 32
  pub standard : IsStandard rows pinned (table_of (names rows) last origins members)
  pub firsts_are : AreFirsts (table_of (names rows) last origins members) firsts
