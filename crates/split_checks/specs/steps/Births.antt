-- Births: classes that are split off others, round by round, and which places share a class at a round.
use Rattle.std.specs.Prelude.{◌≡◌, ◌<◌, ◌≤◌, ℕ, List, slice_index}
use Rattle.std.specs.List.{Contains}
use Rattle.split_checks.specs.declared.births.Birth.{Birth}

-- Births of classes below a number. Each class is split off at most one other, after round 0, and later than
-- that one was split off itself.
pub record AreBirths (classes : ℕ) (births : List Birth) : Type 0 where
  pub within : (b : Birth) → Contains births b → (b.class < classes) × (b.parent < classes)
  pub once : (b d : Birth) → Contains births b → Contains births d → b.class ≡ d.class → b ≡ d
  pub behind : (b : Birth) → Contains births b → 0 < b.round
  pub later : (b d : Birth) → Contains births b → Contains births d → d.class ≡ b.parent → d.round < b.round

-- Class a is the nearest class that already existed at a round, from class c up the parents.
pub data IsAncestor (births : List Birth) (round : ℕ) : ℕ → ℕ → Type 0 where
  itself : (c : ℕ) → ((b : Birth) → Contains births b → b.class ≡ c → b.round ≤ round) → IsAncestor births round c c
  through : (c a : ℕ) (b : Birth) → Contains births b → b.class ≡ c → round < b.round
      → IsAncestor births round b.parent a → IsAncestor births round c a

-- Two places shared a class at a round; `last` has by place its class in the end.
abbrev pub Shared : List Birth → List ℕ → ℕ → ℕ → ℕ → Type 0
Shared births last round x z = (a : ℕ) × IsAncestor births round (slice_index last x) a
    × IsAncestor births round (slice_index last z) a
