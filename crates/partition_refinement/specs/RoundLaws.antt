-- Laws of rounds.
use Rattle.std.specs.Prelude.{◌≡◌, ℕ, ◌+◌, ◌<◌, ◌≤◌, ◌↔◌, Bool, true, List, length, slice_index}
use Rattle.partitions.specs.Layouts.{Layout, size, count, class_in, parent_of}
use Rattle.partition_edges.specs.declared.edges.Edge.{Edge}
use Rattle.partition_edges.specs.Edges.{AreEdges, AgreeAt}
use Rattle.partition_refinement.specs.Rounds.{Shared, IsRefined}

-- E is the refinement: round 0 is `start`, and each round splits two places of a class if they don't agree
-- under the round before.
pub record Refines (edges : List Edge) (shapes : List ℕ) (start : Layout) (E : ℕ → ℕ → ℕ → Bool) : Type 0 where
  pub first : (x z : ℕ) → x < size start → z < size start → (E 0 x z ≡ true) ↔ (class_in start x ≡ class_in start z)
  pub next : (r x z : ℕ) → x < size start → z < size start → (E (r + 1) x z ≡ true)
      ↔ ((E r x z ≡ true) × (slice_index shapes x ≡ slice_index shapes z)
      × AgreeAt edges (λ t u. E r t u ≡ true) x z)

-- A relation that refines round by round equals the counted rounds, and splits nothing in the round after the
-- last one.
abbrev pub RoundsAreTheRefinement : Type 0
RoundsAreTheRefinement = (edges : List Edge) (shapes : List ℕ) (start p : Layout) (counts : List ℕ)
    (E : ℕ → ℕ → ℕ → Bool) → AreEdges (size start) edges → IsRefined edges shapes start p counts
    → Refines edges shapes start E
    → ((r x z : ℕ) → r < length counts → x < size p → z < size p → (E r x z ≡ true) ↔ Shared p (slice_index counts r) x z)
    × ((r x z : ℕ) → r + 1 ≡ length counts → x < size p → z < size p → E r x z ≡ true
    → E (r + 1) x z ≡ true)

-- Each round after round 0 splits some pair of places.
abbrev pub RoundsPart : Type 0
RoundsPart = (edges : List Edge) (shapes : List ℕ) (start p : Layout) (counts : List ℕ)
    → IsRefined edges shapes start p counts → (r : ℕ) → r + 1 < length counts
    → (x : ℕ) × (z : ℕ) × (x < size p) × (z < size p) × Shared p (slice_index counts r) x z
    × (Shared p (slice_index counts (r + 1)) x z → ⊥)

-- A class that came after round 0 was split off a class with a smaller number.
abbrev pub PartedOffEarlier : Type 0
PartedOffEarlier = (edges : List Edge) (shapes : List ℕ) (start p : Layout) (counts : List ℕ)
    → IsRefined edges shapes start p counts → (d : ℕ) → slice_index counts 0 ≤ d → d < count p → parent_of p d < d
