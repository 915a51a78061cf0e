-- What the rounds of a refinement leave.
use Rattle.std.specs.Prelude.{◌≡◌, ℕ, ◌+◌, ◌<◌, ◌≤◌, ◌↔◌, List, length, slice_index}
use Rattle.partitions.specs.Layouts.{Layout, size, count, class_in, IsLaid}
use Rattle.partitions.specs.Refinements.{Above}
use Rattle.partition_edges.specs.declared.edges.Edge.{Edge}
use Rattle.partition_edges.specs.Edges.{AgreeAt}

-- two places shared a class when there were `base` classes
abbrev pub Shared : Layout → ℕ → ℕ → ℕ → Type 0
Shared p base x z = (a : ℕ) × Above p.parent base (class_in p x) a × Above p.parent base (class_in p z) a

-- Two places have one shape, and refer at each position to places that shared a class when there were `base`
-- classes.
abbrev pub Agreed : List Edge → List ℕ → Layout → ℕ → ℕ → ℕ → Type 0
Agreed edges shapes p base x z = (slice_index shapes x ≡ slice_index shapes z) × AgreeAt edges (Shared p base) x z

-- `counts` are the numbers of classes after each of the rounds. Round 0 is `start`. Each later round splits
-- exactly the places of a class that don't agree under the round before.
pub record AreRounds (edges : List Edge) (shapes : List ℕ) (start p : Layout) (counts : List ℕ) : Type 0 where
  pub rooted : (r x : ℕ) → r < length counts → x < size p
      → (a : ℕ) × Above p.parent (slice_index counts r) (class_in p x) a
  pub below : (r : ℕ) → r < length counts → slice_index counts r ≤ count p
  pub rising : (r : ℕ) → r + 1 < length counts → slice_index counts r < slice_index counts (r + 1)
  pub first : (x z : ℕ) → x < size p → z < size p → Shared p (slice_index counts 0) x z
      ↔ (class_in start x ≡ class_in start z)
  pub next : (r x z : ℕ) → r + 1 < length counts → x < size p → z < size p → Shared p (slice_index counts (r + 1)) x z
      ↔ (Shared p (slice_index counts r) x z × Agreed edges shapes p (slice_index counts r) x z)

-- The rounds of a refinement, up to a round after which all places that share a class agree.
pub record IsRefined (edges : List Edge) (shapes : List ℕ) (start p : Layout) (counts : List ℕ) : Type 0 where
  pub laid : IsLaid p
  pub places : size p ≡ size start
  pub some : 0 < length counts
  pub last : (r : ℕ) → r + 1 ≡ length counts → slice_index counts r ≡ count p
  pub rounds : AreRounds edges shapes start p counts
  pub stable : (x z : ℕ) → x < size p → z < size p → class_in p x ≡ class_in p z
      → Agreed edges shapes p (count p) x z
