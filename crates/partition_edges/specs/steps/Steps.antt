-- What the code computes.
use Rattle.std.specs.Prelude.{◌≡◌, ℕ, ◌<◌, ◌≤◌, ◌⊎◌, List}
use Rattle.std.specs.List.{All, Contains}
use Rattle.partitions.specs.declared.pairs.Pair.{Pair}
use Rattle.partitions.specs.Layouts.{Layout, size, class_in}
use Rattle.partitions.specs.Refinements.{IsAmong, HasPair}
use Rattle.partition_edges.specs.declared.edges.Edge.{Edge}
use Rattle.partition_edges.specs.Edges.{HasEdge}

-- the sources of these references are below n
abbrev pub AreFrom : ℕ → List Edge → Type 0
AreFrom n = All (λ e. e.source < n)

-- no other place is in the class of x
abbrev pub IsAlone : Layout → ℕ → Type 0
IsAlone p x = (z : ℕ) → z < size p → class_in p z ≡ class_in p x → z ≡ x

-- one of these references, to one of these places
abbrev pub IsInto : List Edge → List ℕ → Edge → Type 0
IsInto edges members e = Contains edges e × IsAmong members e.target

-- For the edges of S, pairs with class c are added. Those from places that are alone in their class may be
-- missing.
pub record Adds (p : Layout) (c : ℕ) (S : Edge → Type 0) (old new : List Pair) : Type 0 where
  pub kept : (d i x : ℕ) → HasPair old d i x → HasPair new d i x
  pub sound : (d i x : ℕ) → HasPair new d i x
      → HasPair old d i x ⊎ ((d ≡ c) × (t : ℕ) × S (record { position = i; source = x; target = t }))
  pub complete : (x i t : ℕ) → S (record { position = i; source = x; target = t }) → (IsAlone p x → ⊥)
      → HasPair new c i x

-- The pairs of the references to the classes from `low` up to, but not including, `high`. Those from places
-- that are alone in their group may be missing.
pub record Gathers (edges : List Edge) (p groups : Layout) (low high : ℕ) (ps : List Pair) : Type 0 where
  pub sound : (c i x : ℕ) → HasPair ps c i x → (low ≤ c) × (c < high)
      × (t : ℕ) × (t < size p) × (class_in p t ≡ c) × HasEdge edges x i t
  pub complete : (x i t : ℕ) → t < size p → low ≤ class_in p t → class_in p t < high → HasEdge edges x i t
      → (IsAlone groups x → ⊥) → HasPair ps (class_in p t) i x

-- Wherever x refers to a place in a class below `low`, z refers at the same position to a place that is in the
-- same class or in one from `low` on.
abbrev pub AgreeBelow : List Edge → Layout → ℕ → ℕ → ℕ → Type 0
AgreeBelow edges p low x z = (i t : ℕ) → HasEdge edges x i t → class_in p t < low
    → (u : ℕ) × HasEdge edges z i u × (class_in p u < low → class_in p t ≡ class_in p u)
