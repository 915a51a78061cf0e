-- Edges in another order are the references of rows still.
use Rattle.std.proofs.Common.{ℕ, List, length}
use Rattle.std.specs.Prelude.{◌↔◌, IsPermutation}
use Rattle.std.proofs.lemmas.List.Sorted.{Contains-permutation, IsPermutation-sym}
use Rattle.partition_edges.specs.declared.edges.Edge.{Edge}
use Rattle.partition_edges.specs.Edges.{AreEdges, HasEdge}
use Rattle.value_equality.specs.Rows.{Row}
use Rattle.row_signatures.specs.steps.References.{Refers}
use Rattle.row_signatures.specs.steps.Signatures.{AreReferences}

pub moved : (rows : List Row) (edges found : List Edge) → AreEdges (length rows) edges
    → ((x i t : ℕ) → HasEdge edges x i t ↔ Refers rows x i t) → IsPermutation edges found → AreReferences rows found
moved rows edges found are refer is =
    let back : (x i t : ℕ) → HasEdge found x i t → HasEdge edges x i t = λ x i t h.
    Contains-permutation found edges (record { position = i; source = x; target = t })
    (IsPermutation-sym edges found is) h in
    record {
      are = record {
        inside = λ x i t h. are.inside x i t (back x i t h);
        one = λ x i t u h g. are.one x i t u (back x i t h) (back x i u g);
      };
      refer = λ x i t. (
        λ h. (refer x i t).0 (back x i t h),
        λ r. Contains-permutation edges found (record { position = i; source = x; target = t }) is ((refer x i t).1 r),
      );
    }
