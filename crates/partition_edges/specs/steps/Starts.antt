-- Classes that places share, and round 0, the partition by kinds.
use Rattle.std.specs.Prelude.{◌≡◌, ℕ, ◌<◌, ◌↔◌, List, length, slice_index}
use Rattle.partitions.specs.Layouts.{Layout, size, class_in, IsLaid, NoneIsChosen}

-- two places share a class
abbrev pub OneClass : Layout → ℕ → ℕ → Type 0
OneClass p t u = class_in p t ≡ class_in p u

-- round 0: the partition in which two places share a class exactly if their kinds are equal
pub record IsStarted (kinds : List ℕ) (p : Layout) : Type 0 where
  pub laid : IsLaid p
  pub settled : NoneIsChosen p
  pub places : size p ≡ length kinds
  pub parts : (x z : ℕ) → x < size p → z < size p → (class_in p x ≡ class_in p z)
      ↔ (slice_index kinds x ≡ slice_index kinds z)
