-- The rounds at which places become the first of their class.
use Rattle.std.specs.Prelude.{◌≡◌, ℕ, ◌+◌, ◌<◌, List, length, slice_index}
use Rattle.partitions.specs.Layouts.{Layout, count}
use Rattle.partition_refinement.specs.Firsts.{IsFirst, AreParted}

-- The numbers of classes after each of the rounds. They grow from round to round, and the last one counts all
-- classes. Each class that came after round 0 was split off one with a smaller number.
pub record AreCounts (p : Layout) (counts : List ℕ) : Type 0 where
  pub some : 0 < length counts
  pub last : (r : ℕ) → r + 1 ≡ length counts → slice_index counts r ≡ count p
  pub rising : (r : ℕ) → r + 1 < length counts → slice_index counts r < slice_index counts (r + 1)
  pub parted : AreParted p (slice_index counts 0)

-- Place h is the first of a class after round r, and was the first of none after the round before.
pub record IsBirth (p : Layout) (counts : List ℕ) (r h : ℕ) : Type 0 where
  pub counted : r < length counts
  pub first : IsFirst p (slice_index counts r) h
  pub fresh : (q : ℕ) → q + 1 ≡ r → IsFirst p (slice_index counts q) h → ⊥
