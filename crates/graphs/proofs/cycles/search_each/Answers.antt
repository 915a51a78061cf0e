use Rattle.std.proofs.Common.{◌∙◌, map, arith}
use Rattle.std.proofs.lemmas.List.{length-map}
use Rattle.graphs.specs.Graphs.{IsCyclic}
use Rattle.graphs.proofs.Placed.{up-to, not-so, cyclic-within}
use Rattle.graphs.proofs.cycles.search_each.Goals as goal

pub loop-vertex-preserved : goal.loop-vertex-preserved
loop-vertex-preserved c = record {
  clean = c.in_ok-is_cyclic.ensures.clean;
  same = c.in_ok-is_cyclic.ensures.length ∙ c.loop-vertex.invariant.same;
  none = up-to (λ b. IsCyclic (map (λ v. v.items) c.args.edges.now) b → ⊥) c.loop-vertex.vertex
      c.loop-vertex.invariant.none
      (not-so _ (IsCyclic (map (λ v. v.items) c.args.edges.now) c.loop-vertex.vertex) c.in_ok-is_cyclic.ensures.cyclic
      c.if-branch.false);
}

pub returns : goal.returns
returns c a on =
    let lt = cyclic-within (map (λ v. v.items) c.args.edges.now) c.requires.graph a on in
    let long = length-map c.args.edges.now (λ v. v.items) in
    let over = c.loop-vertex-test.false in
    c.loop-vertex.invariant.none a (omega (arith, lt, long, over)) on
