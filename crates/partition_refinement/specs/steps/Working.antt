-- What the code computes.
use Rattle.std.specs.Prelude.{◌≡◌, ◌≢◌, ◌↔◌, ◌⊎◌, ℕ, ◌+◌, ◌-◌, ◌*◌, ◌%◌, ◌<◌, ◌≤◌, List, length, slice_index}
use Rattle.std.specs.List.{Contains}
use Rattle.partitions.specs.Layouts.{Layout, IsLaid, size, count, class_in, parent_of}
use Rattle.partitions.specs.Refinements.{Above, IsAmong, IsAmongFirst}
use Rattle.partition_refinement.specs.Firsts.{IsFirstOf, IsFirstIn, IsFirst}
use Rattle.partition_refinement.specs.Births.{AreCounts, IsBirth}

-- the first places of the classes below `base`, when there were `base` classes
abbrev pub AreFirstPlaces : Layout → ℕ → List ℕ → Type 0
AreFirstPlaces p base first_places = (c : ℕ) → c < base → IsFirstIn p base c (slice_index first_places c)

-- For each class from `high` - 1 down to `low`: the place that became the first of a class when it was split
-- off.
pub record AreBorn (p : Layout) (low high : ℕ) (born : List ℕ) : Type 0 where
  pub each : length born ≡ high - low
  pub begins : (d : ℕ) → low ≤ d → d < high → (h : ℕ)
      → IsFirst p (d + 1) h ↔ (IsFirst p d h ⊎ (h ≡ slice_index born (high - 1 - d)))
  pub fresh : (d : ℕ) → low ≤ d → d < high → IsFirst p d (slice_index born (high - 1 - d)) → ⊥
  pub in_parent : (d : ℕ) → low ≤ d → d < high
      → Above p.parent d (class_in p (slice_index born (high - 1 - d))) (parent_of p d)

-- class c was part of class a when there were `base` classes
abbrev pub IsAbove : Layout → ℕ → ℕ → ℕ → Type 0
IsAbove p base c a = Above p.parent base c a

-- At each of the first i of these places there is a number that P relates to it. All other entries are
-- unchanged.
pub record AreWritten (P : ℕ → ℕ → Type 0) (old new places : List ℕ) (i : ℕ) : Type 0 where
  pub each : length new ≡ length old
  pub there : (h : ℕ) → IsAmongFirst places i h → P h (slice_index new h)
  pub elsewhere : (h : ℕ) → (IsAmongFirst places i h → ⊥) → slice_index new h ≡ slice_index old h

-- The entry of a place is its round if that is `from` or later. All other entries are at least the number of
-- rounds.
pub record AreRoundsFrom (p : Layout) (counts : List ℕ) (from : ℕ) (rounds : List ℕ) : Type 0 where
  pub each : length rounds ≡ size p
  pub late : (h : ℕ) → h < size p → from ≤ slice_index rounds h
  pub births : (q h : ℕ) → h < size p → from ≤ q → q < length counts → (slice_index rounds h ≡ q) ↔ IsBirth p counts q h

-- The entry of a place that is born after round `from` is the first place of the class that it was in the round
-- before.
pub record AreTracedFrom (p : Layout) (counts : List ℕ) (from : ℕ) (before : List ℕ) : Type 0 where
  pub each : length before ≡ size p
  pub births : (q h : ℕ) → from ≤ q → IsBirth p counts (q + 1) h
      → IsFirstOf p (slice_index counts q) h (slice_index before h)

-- all rounds after `round` are undone
pub record IsBack (p : Layout) (counts : List ℕ) (round : ℕ) (first_places rounds before : List ℕ) : Type 0 where
  pub each : length first_places ≡ count p
  pub first : AreFirstPlaces p (slice_index counts round) first_places
  pub marked : AreRoundsFrom p counts (round + 1) rounds
  pub traced : AreTracedFrom p counts round before

-- all rounds are undone
pub record IsUndone (p : Layout) (counts rounds before : List ℕ) : Type 0 where
  pub marked : AreRoundsFrom p counts 0 rounds
  pub traced : AreTracedFrom p counts 0 before

-- by place, the first place of its class
pub record AreHeads (p : Layout) (heads : List ℕ) : Type 0 where
  pub each : length heads ≡ size p
  pub first : (x : ℕ) → x < size p → IsFirstOf p (count p) x (slice_index heads x)

-- all that the rounds of n places determine
pub record IsTraced (p : Layout) (counts rounds before heads : List ℕ) (n : ℕ) : Type 0 where
  pub laid : IsLaid p
  pub counted : AreCounts p counts
  pub places : size p ≡ n
  pub undone : IsUndone p counts rounds before
  pub headed : AreHeads p heads

-- a round and a place in one number
abbrev pub key_of : ℕ → ℕ → ℕ
key_of round place = round * 4294967296 + place

-- the births of those among the first n places whose round is below the limit, each once
pub record AreKeys (rounds : List ℕ) (limit n : ℕ) (keys : List ℕ) : Type 0 where
  pub few : length keys ≤ n
  pub sound : (c : ℕ) → c < length keys → (h : ℕ) × (h < n) × (slice_index rounds h < limit)
      × (slice_index keys c ≡ key_of (slice_index rounds h) h)
  pub complete : (h : ℕ) → h < n → slice_index rounds h < limit → Contains keys (key_of (slice_index rounds h) h)
  pub apart : (c d : ℕ) → c < d → d < length keys → slice_index keys c % 4294967296 ≢ slice_index keys d % 4294967296

-- the births of all places whose round is below the limit, by round, then by place
pub record AreBirths (rounds : List ℕ) (limit : ℕ) (births : List ℕ) : Type 0 where
  pub few : length births ≤ length rounds
  pub sound : (c : ℕ) → c < length births → (h : ℕ) × (h < length rounds) × (slice_index rounds h < limit)
      × (slice_index births c ≡ key_of (slice_index rounds h) h)
  pub complete : (h : ℕ) → h < length rounds → slice_index rounds h < limit
      → IsAmong births (key_of (slice_index rounds h) h)
  pub rises : (c d : ℕ) → c < d → d < length births → slice_index births c < slice_index births d

-- At the place of each of the first i births, `numbers` has the index of a birth with this place.
pub record IsIndex (births numbers : List ℕ) (i : ℕ) : Type 0 where
  pub found : (c : ℕ) → c < i → (slice_index numbers (slice_index births c % 4294967296) < length births)
      × (slice_index births (slice_index numbers (slice_index births c % 4294967296)) % 4294967296
      ≡ slice_index births c % 4294967296)
