-- What the code computes: births that are undone, from the last round back.
use Rattle.std.specs.Prelude.{◌≡◌, ◌≢◌, ◌<◌, ◌≤◌, ◌↔◌, ◌⊎◌, ℕ, List, [], ◌++◌, length, map}
use Rattle.std.specs.List.{Contains}
use Rattle.std.specs.List.Sorted.{IsNonDecreasingBy}
use Rattle.std.specs.Global.{Vec}
use Rattle.partitions.specs.declared.pairs.Pair.{Pair}
use Rattle.partitions.specs.Refinements.{HasPair}
use Rattle.split_checks.specs.declared.births.Birth.{Birth}
use Rattle.split_checks.specs.steps.Births.{IsAncestor}
use Rattle.split_checks.specs.steps.ComputedMembers.{Hold, row}
use Rattle.split_checks.specs.steps.Moves.{AreFalling, MovedAlike}

-- pairs of these places
abbrev pub pairs_of : ℕ → ℕ → List ℕ → List Pair
pairs_of round number places = map (λ x. record { position = number; class = round; place = x }) places

-- The places of one of two lists move to the other one, and pairs for them are appended.
pub record AreMerged (one other both : List ℕ) (round number : ℕ) (old new : List Pair) : Type 0 where
  pub held : (x : ℕ) → Contains both x ↔ (Contains one x ⊎ Contains other x)
  pub moved : List ℕ
  pub moved_is : (moved ≡ one) ⊎ (moved ≡ other)
  pub noted : new ≡ old ++ pairs_of round number moved

-- The list of the class is joined with that of its parent.
pub record Undoes (b : Birth) (number : ℕ) (lists after : List (Vec ℕ)) (old new : List Pair) : Type 0 where
  pub each : length after ≡ length lists
  pub class_row : row after b.class ≡ []
  pub others : (d : ℕ) → d ≢ b.class → d ≢ b.parent → row after d ≡ row lists d
  pub merged : AreMerged (row lists b.class) (row lists b.parent) (row after b.parent) b.round number old new

-- Two places shared a class at a round; `start x` is the class of place x in the end.
abbrev pub SharedFrom : List Birth → (ℕ → ℕ) → ℕ → ℕ → ℕ → Type 0
SharedFrom births start round x z = (a : ℕ) × IsAncestor births round (start x) a × IsAncestor births round (start z) a

-- After some births are undone, `left` are the others, none of them after round `top`, and each place x is in
-- the class `now x`. For a round that no birth in `left` comes after, two places shared a class then under two
-- conditions: they are in one class now, and they were moved together up to that round.
pub record IsBack (births : List Birth) (n : ℕ) (start : ℕ → ℕ) (left : List Birth) (top : ℕ) (now : ℕ → ℕ)
    (moves : List Pair) : Type 0 where
  pub some : 0 < top
  pub sorted : IsNonDecreasingBy (λ b. b.round) left
  pub low : (b : Birth) → Contains left b → b.round ≤ top
  pub own : (b : Birth) → Contains left b → Contains births b
  pub whole : (b : Birth) → Contains births b → Contains left b ⊎ (top ≤ b.round)
  pub leads : (round x a : ℕ) → x < n → round < top → IsAncestor births round (start x) a
      ↔ IsAncestor births round (now x) a
  pub begun : (b : Birth) (x : ℕ) → x < n → Contains births b → b.class ≡ now x → Contains left b
  pub fresh : (c i x : ℕ) → HasPair moves c i x → length left ≤ i
  pub late : (c i x : ℕ) → HasPair moves c i x → top ≤ c
  pub places : (c i x : ℕ) → HasPair moves c i x → x < n
  pub falling : AreFalling moves
  pub tell : (round x z : ℕ) → x < n → z < n → ((b : Birth) → Contains left b → b.round ≤ round)
      → SharedFrom births start round x z ↔ ((now x ≡ now z) × MovedAlike moves round x z)

-- all births are undone
pub record AreUndone (births : List Birth) (n : ℕ) (start : ℕ → ℕ) (after : List (Vec ℕ)) (moves : List Pair) : Type 0
  where
    pub top : ℕ
    pub now : ℕ → ℕ
    pub hold : Hold after n now
    pub back : IsBack births n start [] top now moves

-- Pairs of round 0 are added: for each place in a list, the pair with the class of the list.
pub record Starts (lists : List (Vec ℕ)) (old new : List Pair) : Type 0 where
  pub added : List Pair
  pub added_is : new ≡ old ++ added
  pub first : (c i x : ℕ) → HasPair added c i x → c ≡ 0
  pub tell : (d x : ℕ) → HasPair added 0 d x ↔ Contains (row lists d) x
