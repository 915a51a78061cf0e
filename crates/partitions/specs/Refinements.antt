-- Refinements: partitions that come of splitting classes.
use Rattle.std.specs.Prelude.{◌≡◌, ℕ, ◌<◌, ◌≤◌, ◌↔◌, List, length, slice_index}
use Rattle.std.specs.List.{Contains}
use Rattle.partitions.specs.declared.pairs.Pair.{Pair}
use Rattle.partitions.specs.Layouts.{Layout, size, count, class_in, IsLaid, NoneIsChosen}

-- Class a is the first one with a number below `base` on a chain of classes. The chain begins with class c, and
-- each class is followed by the one that it was split off.
pub data Above (parents : List ℕ) (base : ℕ) : ℕ → ℕ → Type 0 where
  here : (c : ℕ) → c < base → Above parents base c c
  up : (c a : ℕ) → base ≤ c → slice_index parents c < c → Above parents base (slice_index parents c) a
      → Above parents base c a

-- `new` comes of splitting classes of `old`. An old number stays with places that had it, and each new class
-- was split off one that its places were in.
pub record IsFiner (old new : Layout) : Type 0 where
  pub places : size new ≡ size old
  pub more : count old ≤ count new
  pub kept : (x : ℕ) → x < size old → class_in new x < count old → class_in new x ≡ class_in old x
  pub finer : (x z : ℕ) → x < size old → z < size old → class_in new x ≡ class_in new z → class_in old x ≡ class_in old z
  pub above : (base x a : ℕ) → base ≤ count old → x < size old → Above old.parent base (class_in old x) a
      → Above new.parent base (class_in new x) a

-- place x has the key of class c and position i
abbrev pub HasPair : List Pair → ℕ → ℕ → ℕ → Type 0
HasPair ps c i x = Contains ps (record { position = i; class = c; place = x })

-- two places have the same keys
abbrev pub HaveSamePairs : List Pair → ℕ → ℕ → Type 0
HaveSamePairs ps x z = (c i : ℕ) → HasPair ps c i x ↔ HasPair ps c i z

-- each class is split by the keys that its places have
pub record IsPartedByPairs (old new : Layout) (ps : List Pair) : Type 0 where
  pub laid : IsLaid new
  pub finer : IsFiner old new
  pub settled : NoneIsChosen new
  pub parts : (x z : ℕ) → x < size old → z < size old → (class_in new x ≡ class_in new z)
      ↔ ((class_in old x ≡ class_in old z) × HaveSamePairs ps x z)

-- each class is split by numbers that its places have
pub record IsPartedByNumbers (old new : Layout) (numbers : List ℕ) : Type 0 where
  pub laid : IsLaid new
  pub finer : IsFiner old new
  pub settled : NoneIsChosen new
  pub parts : (x z : ℕ) → x < size old → z < size old → (class_in new x ≡ class_in new z)
      ↔ ((class_in old x ≡ class_in old z) × (slice_index numbers x ≡ slice_index numbers z))

-- x is among the first i numbers; x is among all of them
abbrev pub IsAmongFirst : List ℕ → ℕ → ℕ → Type 0
IsAmongFirst xs i x = (k : ℕ) × (k < i) × (slice_index xs k ≡ x)

abbrev pub IsAmong : List ℕ → ℕ → Type 0
IsAmong xs x = IsAmongFirst xs (length xs) x

-- these are places, of which there are n
abbrev pub ArePlaces : ℕ → List ℕ → Type 0
ArePlaces n xs = (k : ℕ) → k < length xs → slice_index xs k < n

-- these are the places of class c, each once
pub record AreMembers (p : Layout) (c : ℕ) (xs : List ℕ) : Type 0 where
  pub sound : (x : ℕ) → IsAmong xs x → (x < size p) × (class_in p x ≡ c)
  pub complete : (x : ℕ) → x < size p → class_in p x ≡ c → IsAmong xs x
  pub once : (j k : ℕ) → j < length xs → k < length xs → slice_index xs j ≡ slice_index xs k → j ≡ k

-- the partition of places by their numbers: two places share a class exactly if their numbers are equal
pub record IsByNumbers (numbers : List ℕ) (p : Layout) : Type 0 where
  pub laid : IsLaid p
  pub settled : NoneIsChosen p
  pub places : size p ≡ length numbers
  pub parts : (x z : ℕ) → x < size p → z < size p → (class_in p x ≡ class_in p z)
      ↔ (slice_index numbers x ≡ slice_index numbers z)
