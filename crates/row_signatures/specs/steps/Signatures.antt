-- The input of refinement: the shapes of rows, and their references outside bags of more than one value.
use Rattle.std.specs.Prelude.{◌≡◌, ◌↔◌, ℕ, Bool, false, List, Some, length, slice_get, slice_index}
use Rattle.partition_edges.specs.declared.edges.Edge.{Edge}
use Rattle.partition_edges.specs.Edges.{AreEdges, HasEdge}
use Rattle.step_values.specs.Shapes.{HaveOneShape}
use Rattle.value_equality.specs.Rows.{Row}
use Rattle.row_signatures.specs.steps.References.{Refers}
use Rattle.row_signatures.specs.declared.signatures.Signatures.{Signatures}

-- the edges are the references of rows
pub record AreReferences (rows : List Row) (edges : List Edge) : Type 0 where
  pub are : AreEdges (length rows) edges
  pub refer : (x i t : ℕ) → HasEdge edges x i t ↔ Refers rows x i t

-- The numbers distinguish the shapes of free rows. Rows with equal numbers have one shape, and free
-- rows of one shape have equal numbers.
pub record AreShapes (rows : List Row) (pinned : ℕ → Bool) (shapes : List ℕ) : Type 0 where
  pub each : length shapes ≡ length rows
  pub alike : (i j : ℕ) (r s : Row) → slice_get rows i ≡ Some r → slice_get rows j ≡ Some s
      → slice_index shapes i ≡ slice_index shapes j → HaveOneShape r.values s.values
  pub tell : (i j : ℕ) (r s : Row) → slice_get rows i ≡ Some r → slice_get rows j ≡ Some s
      → pinned r.name ≡ false → pinned s.name ≡ false
      → HaveOneShape r.values s.values → slice_index shapes i ≡ slice_index shapes j

pub record AreSignatures (rows : List Row) (pinned : ℕ → Bool) (s : Signatures) : Type 0 where
  pub references : AreReferences rows s.edges
  pub shaped : AreShapes rows pinned s.shapes.items

-- nothing is pinned
abbrev pub none_pinned : ℕ → Bool
none_pinned y = false
