-- Edges: which places refer to which, and at which positions.
use Rattle.std.specs.Prelude.{◌≡◌, ℕ, ◌<◌, ◌↔◌, List, length, slice_index}
use Rattle.std.specs.List.{Contains}
use Rattle.partition_edges.specs.declared.edges.Edge.{Edge}

-- place x refers to t at position i
abbrev pub HasEdge : List Edge → ℕ → ℕ → ℕ → Type 0
HasEdge edges x i t = Contains edges (record { position = i; source = x; target = t })

-- The edges are references among n places. At each position, a place refers to at most one place. A position
-- may be any number that an `Edge` holds, up to 2^64 - 1.
pub record AreEdges (n : ℕ) (edges : List Edge) : Type 0 where
  pub inside : (x i t : ℕ) → HasEdge edges x i t → (x < n) × (t < n)
  pub one : (x i t u : ℕ) → HasEdge edges x i t → HasEdge edges x i u → t ≡ u

-- places of one shape refer at the same positions
abbrev pub ReferAlike : List Edge → List ℕ → Type 0
ReferAlike edges shapes = (x z i t : ℕ) → x < length shapes → z < length shapes
    → slice_index shapes x ≡ slice_index shapes z → HasEdge edges x i t → (u : ℕ) × HasEdge edges z i u

-- these are the references to t
abbrev pub AreInto : List Edge → ℕ → List Edge → Type 0
AreInto edges t into = (e : Edge) → Contains into e ↔ (Contains edges e × (e.target ≡ t))

-- at each position x and z refer to places that R relates
pub record AgreeAt (edges : List Edge) (R : ℕ → ℕ → Type 0) (x z : ℕ) : Type 0 where
  pub there : (i t : ℕ) → HasEdge edges x i t → (u : ℕ) × HasEdge edges z i u × R t u
  pub back : (i u : ℕ) → HasEdge edges z i u → (t : ℕ) × HasEdge edges x i t × R t u
