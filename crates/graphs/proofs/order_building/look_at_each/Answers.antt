use Rattle.std.proofs.Common.{ℕ, ◌≤◌, ◌∙◌, List, map, length, get_or, ap, arith, refl}
use Rattle.graphs.specs.Graphs.{has}
use Rattle.std.proofs.lemmas.List.{take_all}
use Rattle.graphs.proofs.Placed.{awaits-each, extends-on}
use Rattle.graphs.proofs.order_building.look_at_each.Goals as goal

pub loop-vertex-preserved : goal.loop-vertex-preserved
loop-vertex-preserved c = record {
  marks = c.in_ok-look.ensures.marks ∙ c.loop-vertex.invariant.marks;
  passed = c.in_ok-look.ensures.passed ∙ c.loop-vertex.invariant.passed;
  placing = c.in_ok-look.ensures.placing;
  extends = extends-on c.args.order.now.items c.loop-vertex.order.items c.look.new.order.items
      c.loop-vertex.invariant.extends c.in_ok-look.ensures.extends;
  awaits = awaits-each (map (λ v. v.items) c.args.edges.now) c.args.vertices.now c.args.order.now.items
      c.loop-vertex.order.items c.look.new.order.items c.loop-vertex.vertex-index
      (get_or c.args.vertices.now c.loop-vertex.vertex-index 0) (omega (arith, c.loop-vertex-test.true)) refl
      c.loop-vertex.invariant.extends c.in_ok-look.ensures.extends c.loop-vertex.invariant.awaits
      c.in_ok-look.ensures.awaits;
}

pub returns-clause-awaits : goal.returns-clause-awaits
returns-clause-awaits c a m n le =
    let all : length c.args.vertices.now ≤ c.loop-vertex.vertex-index = omega (arith, c.loop-vertex-test.false) in
    c.loop-vertex.invariant.awaits a
    (ap (λ (ys : List ℕ). has ys a) (take_all c.loop-vertex.vertex-index c.args.vertices.now all) ∙ m) n le
