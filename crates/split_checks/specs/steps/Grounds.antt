-- When splits have their grounds.
use Rattle.std.specs.Prelude.{◌≡◌, ◌+◌, ◌<◌, ℕ, List, length, slice_index}
use Rattle.partition_edges.specs.declared.edges.Edge.{Edge}
use Rattle.partition_edges.specs.Edges.{AgreeAt}
use Rattle.split_checks.specs.declared.births.Birth.{Birth}
use Rattle.split_checks.specs.steps.Births.{Shared}

-- two places are equivalent targets of references: E relates them, and their own numbers are equal
abbrev pub StandForOne : List ℕ → (ℕ → ℕ → Type 0) → ℕ → ℕ → Type 0
StandForOne own E t u = (slice_index own t ≡ slice_index own u) × E t u

-- Splits have their grounds: two places still share a class at the next round if at a round they share a class,
-- have one shape, and refer to equivalent targets.
abbrev pub HaveGrounds : List Birth → List ℕ → List ℕ → List ℕ → List Edge → Type 0
HaveGrounds births last own shapes edges = (round x z : ℕ) → x < length last → z < length last
    → Shared births last round x z → slice_index shapes x ≡ slice_index shapes z
    → AgreeAt edges (StandForOne own (Shared births last round)) x z → Shared births last (round + 1) x z
