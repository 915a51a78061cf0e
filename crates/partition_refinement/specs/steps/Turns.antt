-- What the code computes: what one round of refinement leaves.
use Rattle.std.specs.Prelude.{◌≡◌, ℕ, ◌<◌, ◌↔◌, List, slice_index}
use Rattle.partitions.specs.Layouts.{Layout, size, class_in, IsLaid, NoneIsChosen}
use Rattle.partitions.specs.Refinements.{IsFiner}
use Rattle.partition_edges.specs.declared.edges.Edge.{Edge}
use Rattle.partition_edges.specs.Edges.{AgreeAt}
use Rattle.partition_edges.specs.steps.Starts.{OneClass}
use Rattle.partition_edges.specs.steps.Steps.{AgreeBelow}

-- a round, if the members of each class already agree about the classes below `low`
pub record IsRound (edges : List Edge) (low : ℕ) (old new : Layout) : Type 0 where
  pub laid : IsLaid new
  pub finer : IsFiner old new
  pub settled : NoneIsChosen new
  pub parts : (x z : ℕ) → x < size old → z < size old → class_in old x ≡ class_in old z → AgreeBelow edges old low x z
      → AgreeBelow edges old low z x → (class_in new x ≡ class_in new z) ↔ AgreeAt edges (OneClass old) x z

-- the first round, which also splits by shapes
pub record IsFirstRound (edges : List Edge) (shapes : List ℕ) (old new : Layout) : Type 0 where
  pub laid : IsLaid new
  pub finer : IsFiner old new
  pub settled : NoneIsChosen new
  pub parts : (x z : ℕ) → x < size old → z < size old → (class_in new x ≡ class_in new z)
      ↔ ((class_in old x ≡ class_in old z) × (slice_index shapes x ≡ slice_index shapes z)
      × AgreeAt edges (OneClass old) x z)
