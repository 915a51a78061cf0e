-- What the code computes: groups of places that are split round by round.
use Rattle.std.specs.Prelude.{◌≡◌, ◌<◌, ◌≤◌, ◌+◌, ◌↔◌, ℕ, Bool, true, List, length, slice_index}
use Rattle.partitions.specs.declared.pairs.Pair.{Pair}
use Rattle.partitions.specs.Layouts.{Layout, size, count, IsLaid, NoneIsChosen}
use Rattle.partitions.specs.Refinements.{HaveSamePairs, IsPartedByPairs}
use Rattle.partition_edges.specs.declared.edges.Edge.{Edge}
use Rattle.partition_edges.specs.Edges.{AgreeAt}
use Rattle.partition_edges.specs.steps.Starts.{OneClass}
use Rattle.partition_edges.specs.steps.Steps.{AgreeBelow}
use Rattle.split_checks.specs.steps.Grounds.{StandForOne}
use Rattle.split_checks.specs.steps.Moves.{MovedAlike, round_at}

-- The pairs of a round are those from index `first` up to, but not including, `end`. All pairs before `first`
-- have later rounds.
pub record IsRun (moves : List Pair) (round first end : ℕ) : Type 0 where
  pub order : first ≤ end
  pub there : (k : ℕ) → first ≤ k → k < end → round_at moves k ≡ round
  pub before : (k : ℕ) → k < first → round < round_at moves k

-- a partition of n places, none of which is chosen to be split off
pub record IsSettled (n : ℕ) (p : Layout) : Type 0 where
  pub laid : IsLaid p
  pub settled : NoneIsChosen p
  pub places : size p ≡ n

-- places share a class if they have the same number and the same pairs
pub record IsBegun (numbers : List ℕ) (run : List Pair) (p : Layout) : Type 0 where
  pub settled : IsSettled (length numbers) p
  pub parts : (x z : ℕ) → x < length numbers → z < length numbers → OneClass p x z
      ↔ ((slice_index numbers x ≡ slice_index numbers z) × HaveSamePairs run x z)

-- these pairs split no group
abbrev pub StayWhole : List Pair → Layout → Type 0
StayWhole run groups = (x z : ℕ) → x < size groups → z < size groups → OneClass groups x z → HaveSamePairs run x z

-- b reports whether the pairs split no group. If so, the groups are unchanged.
pub record IsTried (run : List Pair) (old new : Layout) (b : Bool) : Type 0 where
  pub settled : IsSettled (size old) new
  pub right : (b ≡ true) ↔ StayWhole run old
  pub same : b ≡ true → (x z : ℕ) → x < size old → z < size old → OneClass new x z ↔ OneClass old x z

-- Groups are split by the labels from `low` on, if their places agree about the labels below `low`.
pub record IsGrouped (edges : List Edge) (low : ℕ) (labels old new : Layout) : Type 0 where
  pub settled : IsSettled (size old) new
  pub finer : (x z : ℕ) → x < size old → z < size old → OneClass new x z → OneClass old x z
  pub parts : (x z : ℕ) → x < size old → z < size old → OneClass old x z → AgreeBelow edges labels low x z
      → AgreeBelow edges labels low z x → OneClass new x z ↔ AgreeAt edges (OneClass labels) x z

-- b reports whether the pairs of a round split no group. If so, the labels are split by these pairs, and the
-- groups by the new labels.
pub record IsStep (edges : List Edge) (run : List Pair) (labels next groups after : Layout) (b : Bool) : Type 0 where
  pub right : (b ≡ true) ↔ StayWhole run groups
  pub labelled : b ≡ true → IsPartedByPairs labels next run
  pub grouped : b ≡ true → IsGrouped edges (count labels) next groups after

-- Splits have their grounds, in terms of moves instead of classes.
abbrev pub MovesHaveGround : List Pair → List ℕ → List ℕ → List Edge → ℕ → Type 0
MovesHaveGround moves own shapes edges round = (x z : ℕ) → x < length own → z < length own → MovedAlike moves round x z
    → slice_index shapes x ≡ slice_index shapes z → AgreeAt edges (StandForOne own (MovedAlike moves round)) x z
    → MovedAlike moves (round + 1) x z

abbrev pub MovesHaveGrounds : List Pair → List ℕ → List ℕ → List Edge → Type 0
MovesHaveGrounds moves own shapes edges = (round : ℕ) → MovesHaveGround moves own shapes edges round

-- The state after a round, whose pairs begin at index `end`. The labels are the classes of equivalent targets
-- after this round. The groups are the places that start in one class, have one shape, and refer to the same
-- labels.
pub record Stands (moves : List Pair) (own shapes : List ℕ) (edges : List Edge) (round end : ℕ) (labels groups : Layout)
    : Type 0 where
  pub labels_are : IsSettled (length own) labels
  pub groups_are : IsSettled (length own) groups
  pub within : end ≤ length moves
  pub left : (k : ℕ) → k < end → round < round_at moves k
  pub done : (k : ℕ) → end ≤ k → k < length moves → round_at moves k ≤ round
  pub labelled : (x z : ℕ) → x < length own → z < length own → OneClass labels x z
      ↔ StandForOne own (MovedAlike moves round) x z
  pub grouped : (x z : ℕ) → x < length own → z < length own → OneClass groups x z
      ↔ ((slice_index shapes x ≡ slice_index shapes z) × MovedAlike moves 0 x z × AgreeAt edges (OneClass labels) x z)
  pub together : (x z : ℕ) → x < length own → z < length own → OneClass groups x z → MovedAlike moves round x z
  pub grounded : (earlier : ℕ) → earlier < round → MovesHaveGround moves own shapes edges earlier
