-- References that agree under a relation agree under a wider one.
use Rattle.std.proofs.Common.{◌<◌, ℕ, List}
use Rattle.partition_edges.specs.declared.edges.Edge.{Edge}
use Rattle.partition_edges.specs.Edges.{AreEdges, AgreeAt}

pub agree_map : (edges : List Edge) (n : ℕ) (R S : ℕ → ℕ → Type 0) (x z : ℕ) → AreEdges n edges
    → ((t u : ℕ) → t < n → u < n → R t u → S t u) → AgreeAt edges R x z → AgreeAt edges S x z
agree_map edges n R S x z are f a = record {
  there = λ i t e. let g = a.there i t e in
      (g.0, g.1, f t g.0 (are.inside x i t e).1 (are.inside z i g.0 g.1).1 g.2);
  back = λ i u e. let g = a.back i u e in
      (g.0, g.1, f g.0 u (are.inside x i g.0 g.1).1 (are.inside z i u e).1 g.2);
}
