-- What the code computes: the places that each split moves, as pairs. The class of a pair is the round, and its
-- position distinguishes the splits of one round.
use Rattle.std.specs.Prelude.{◌≤◌, ◌<◌, ◌↔◌, ℕ, List, length}
use Rattle.std.specs.List.{All}
use Rattle.partitions.specs.declared.pairs.Pair.{Pair}
use Rattle.partitions.specs.Refinements.{HasPair}
use Rattle.partitions.specs.steps.Steps.{pair_at}
use Rattle.split_checks.specs.declared.births.Birth.{Birth}
use Rattle.split_checks.specs.steps.Births.{Shared}

-- the round of the pair at k
abbrev pub round_at : List Pair → ℕ → ℕ
round_at moves k = (pair_at moves k).class

-- later rounds come first
abbrev pub AreFalling : List Pair → Type 0
AreFalling moves = (j k : ℕ) → j ≤ k → k < length moves → round_at moves k ≤ round_at moves j

-- two places were moved together up to a round
abbrev pub MovedAlike : List Pair → ℕ → ℕ → ℕ → Type 0
MovedAlike moves round x z = (c i : ℕ) → c ≤ round → HasPair moves c i x ↔ HasPair moves c i z

-- Moves that determine which places shared a class at each round.
pub record AreMoves (births : List Birth) (last : List ℕ) (moves : List Pair) : Type 0 where
  pub places : All (λ a. a.place < length last) moves
  pub falling : AreFalling moves
  pub tell : (round x z : ℕ) → x < length last → z < length last → Shared births last round x z
      ↔ MovedAlike moves round x z
