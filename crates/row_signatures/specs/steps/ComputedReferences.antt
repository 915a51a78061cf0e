-- What the code computes; no promise stands here. The edges of one row, and of the first n rows.
use Rattle.std.specs.Prelude.{◌≡◌, ◌<◌, ◌+◌, ◌↔◌, ◌++◌, ℕ, Bool, true, false, List, [], ◌∷◌, length, Some, slice_get}
use Rattle.std.specs.List.{Contains}
use Rattle.partition_edges.specs.declared.edges.Edge.{Edge}
use Rattle.step_values.specs.declared.slot.Kind.{Kind}
use Rattle.step_values.specs.declared.slot.Kind.TheVariants as kinds
use Rattle.value_equality.specs.Rows.{Row, names}
use Rattle.row_signatures.specs.steps.References.{Refers}

-- the next edge from row `source` to the row of a name; the edges of `source` begin at index
-- `first`
pub record IsNext (rows : List Row) (source first : ℕ) (old : List Edge) (name : ℕ) (e : Edge) : Type 0 where
  pub source_is : e.source ≡ source
  pub position_is : first + e.position ≡ length old
  pub target_is : slice_get (names rows) e.target ≡ Some name

-- such an edge is added for each of these names, in order, and no other edge
abbrev pub AddsEdges : List Row → ℕ → ℕ → List ℕ → List Edge → List Edge → Type 0
AddsEdges rows source first [] old new = new ≡ old
AddsEdges rows source first (y ∷ ys) old new =
    (e : Edge) × IsNext rows source first old y e × AddsEdges rows source first ys (old ++ e ∷ []) new

-- the edges of the first n rows
abbrev pub AreOfFirst : List Row → ℕ → List Edge → Type 0
AreOfFirst rows n edges = (e : Edge) → Contains edges e ↔ ((e.source < n) × Refers rows e.source e.position e.target)

-- whether values of this kind are references, or can contain references
abbrev pub leads_on : Kind → Bool
leads_on kinds.Reference = true
leads_on kinds.Typed = true
leads_on kinds.List = true
leads_on kinds.Bag = true
leads_on k = false
