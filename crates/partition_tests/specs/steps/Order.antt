-- What the code computes; no promise is stated here.
use Rattle.std.specs.Prelude.{◌≡◌, ◌⊎◌, ℕ, ◌-◌, ◌<◌, List, get_or, length, slice_index}
use Rattle.partition_edges.specs.declared.edges.Edge.{Edge}
use Rattle.partition_edges.specs.Edges.{HasEdge}

-- an edge has a later source than another, or the same source and a later position
abbrev pub IsBehind : Edge → Edge → Type 0
IsBehind e d = (d.source < e.source) ⊎ ((d.source ≡ e.source) × (d.position < e.position))

-- an edge is between places below n
abbrev pub IsBetween : ℕ → Edge → Type 0
IsBetween n e = (e.source < n) × (e.target < n)

-- the edge at k
abbrev pub edge_at : List Edge → ℕ → Edge
edge_at edges k = get_or edges k (record { position = 0; source = 0; target = 0 })

-- the edge at k is between places below n, and comes after the one before it
pub record GoesOn (n : ℕ) (edges : List Edge) (k : ℕ) : Type 0 where
  pub between : IsBetween n (edge_at edges k)
  pub behind : 0 < k → IsBehind (edge_at edges k) (edge_at edges (k - 1))

-- all places with the shape of place x have a reference at position i
abbrev pub AllReferAt : List Edge → List ℕ → ℕ → ℕ → Type 0
AllReferAt edges shapes x i = (z : ℕ) → z < length shapes → slice_index shapes x ≡ slice_index shapes z
    → (t : ℕ) × HasEdge edges z i t

-- all places with the shape of the source of the edge at k have a reference at its position
abbrev pub SharesPosition : List Edge → List ℕ → ℕ → Type 0
SharesPosition edges shapes k = AllReferAt edges shapes (edge_at edges k).source (edge_at edges k).position
