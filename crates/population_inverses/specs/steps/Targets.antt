-- The instances that values refer to.
use Rattle.std.specs.Prelude.{ℕ, suc, ◌==◌, cond, List, [], ◌∷◌, ◌++◌, map}
use Rattle.graphs.specs.declared.referrers.Reference.{Reference}
use Rattle.step_values.specs.Values.{Value, leaf, reference, typed, sequence, bag, Values, none, more}

-- the names that a value refers to, at any depth, in order, each as often as it occurs
abbrev mutual
  pub targets : Value → List ℕ
  targets (leaf a) = []
  targets (reference y) = y ∷ []
  targets (typed n v) = targets v
  targets (sequence vs) = targets_of_each vs
  targets (bag vs) = targets_of_each vs

  pub targets_of_each : Values → List ℕ
  targets_of_each none = []
  targets_of_each (more v vs) = targets v ++ targets_of_each vs

-- how often y occurs in a list
abbrev pub often : ℕ → List ℕ → ℕ
often y [] = 0
often y (x ∷ xs) = cond (y == x) (suc (often y xs)) (often y xs)

-- a reference from the instance to each of the names
abbrev pub references_to : List ℕ → ℕ → List Reference
references_to names referrer = map (λ t. record { target = t; referrer = referrer }) names
