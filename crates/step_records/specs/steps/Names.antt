-- Names of instances, some of which are also in a set.
use Rattle.std.specs.Prelude.{◌≡◌, ℕ, ◌≤◌, List, [], ◌∷◌, length, take}
use Rattle.step_structures.specs.Fits.{has_name}

-- none of the names is greater than `greatest`
abbrev pub AtMost : ℕ → List ℕ → Type 0
AtMost greatest [] = Unit {0}
AtMost greatest (n ∷ ns) = (n ≤ greatest) × AtMost greatest ns

-- the names of a set are the first `count` of a list
pub record AreFirst (set : List ℕ) (count : ℕ) (names : List ℕ) : Type 0 where
  pub within : count ≤ length names
  pub same : (n : ℕ) → has_name n set ≡ has_name n (take count names)

pub record IsKept (names : List ℕ) (greatest : ℕ) (set : List ℕ) (count : ℕ) : Type 0 where
  pub bound : AtMost greatest names
  pub first : AreFirst set count names
