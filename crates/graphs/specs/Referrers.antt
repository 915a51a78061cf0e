-- Referrers: which instance refers to which, as a list of references.
use Rattle.std.specs.Prelude.{◌≡◌, ℕ, ◌==◌, ◌<◌, ◌≤◌, true, false, List, length, map, filter, get_or}
use Rattle.std.specs.Prelude.{ltb, leb}
use Rattle.std.specs.List.Sorted.{IsNonDecreasingBy, IsPartitionPoint}
use Rattle.graphs.specs.declared.referrers.Reference.{Reference}

-- the referrers of a target, one for each reference, in the order of the list
abbrev pub referrers_of : ℕ → List Reference → List ℕ
referrers_of target references = map (λ r. r.referrer) (filter (λ r. target == r.target) references)

abbrev pub AreByTarget : List Reference → Type 0
AreByTarget = IsNonDecreasingBy (λ r. r.target)

-- Each reference before index `at` has a target below `target`, and `at` is at most the length of the list.
pub record AreBelow (target at : ℕ) (references : List Reference) : Type 0 where
  pub below : (k : ℕ) (d : Reference) → k < at → ltb (get_or references k d).target target ≡ true
  pub within : at ≤ length references

-- No reference from index `at` on has a target below `target`.
abbrev pub AreFrom : ℕ → ℕ → List Reference → Type 0
AreFrom target at references =
    (k : ℕ) (d : Reference) → at ≤ k → k < length references → ltb (get_or references k d).target target ≡ false

-- The references to `target` begin at index `first`, or would begin there.
pub record Begin (target first : ℕ) (references : List Reference) : Type 0 where
  pub point : IsPartitionPoint (λ r. ltb r.target target ≡ true) (λ r. ltb r.target target ≡ false) references first
  pub within : first ≤ length references

-- The references to `target` end at index `end`, or would end there.
pub record End (target end : ℕ) (references : List Reference) : Type 0 where
  pub point : IsPartitionPoint (λ r. leb r.target target ≡ true) (λ r. leb r.target target ≡ false) references end
  pub within : end ≤ length references

-- where the references to a target begin and end
pub record AreEnds (target first end : ℕ) (references : List Reference) : Type 0 where
  pub begin : Begin target first references
  pub ends : End target end references
