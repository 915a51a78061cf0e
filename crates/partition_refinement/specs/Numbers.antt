-- The standard numbers of classes.
use Rattle.std.specs.Prelude.{◌≡◌, ◌⊎◌, ℕ, ◌+◌, ◌<◌, List, Some, length, slice_index, slice_get}
use Rattle.partitions.specs.Layouts.{Layout, size, count}
use Rattle.partition_refinement.specs.declared.numbering.Origin.{Origin}
use Rattle.partition_refinement.specs.declared.numbering.Origin.TheVariants.{Start, Split}
use Rattle.partition_refinement.specs.Firsts.{IsFirstOf}
use Rattle.partition_refinement.specs.Births.{IsBirth}

-- the round at which a class began
abbrev pub began : Origin → ℕ
began Start = 0
began (Split parent round) = round

-- Birth (round, i) comes before birth (later, j): by round, then by place.
abbrev pub IsEarlier : ℕ → ℕ → ℕ → ℕ → Type 0
IsEarlier round i later j = (round < later) ⊎ ((round ≡ later) × (i < j))

-- The classes by number, each with its first place and its origin. A class begins when its first place becomes
-- the first of a class; no two classes share both round and first place. They are numbered by the round at
-- which they begin, then by first place. The parent of a class that began after round 0 is the class that its
-- first place was in the round before. Each place is a member of the class that it is in after the last round.
pub record IsNumbering (p : Layout) (counts firsts : List ℕ) (origins : List Origin) (members : List ℕ) : Type 0 where
  pub each : length origins ≡ length firsts
  pub births : (c : ℕ) (o : Origin) → slice_get origins c ≡ Some o → IsBirth p counts (began o) (slice_index firsts c)
  pub complete : (r h : ℕ) → IsBirth p counts r h → (c : ℕ) × (o : Origin) × (slice_get origins c ≡ Some o)
      × (began o ≡ r) × (slice_index firsts c ≡ h)
  pub ordered : (c d : ℕ) (o u : Origin) → c < d → slice_get origins c ≡ Some o → slice_get origins d ≡ Some u
      → IsEarlier (began o) (slice_index firsts c) (began u) (slice_index firsts d)
  pub parents : (c parent round : ℕ) → slice_get origins c ≡ Some (Split parent round) → (q : ℕ) × (round ≡ q + 1)
      × (parent < length firsts) × IsFirstOf p (slice_index counts q) (slice_index firsts c) (slice_index firsts parent)
  pub places : length members ≡ size p
  pub member : (x : ℕ) → x < size p → (slice_index members x < length firsts)
      × IsFirstOf p (count p) x (slice_index firsts (slice_index members x))
