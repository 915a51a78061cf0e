use Rattle.std.proofs.Common.{◌∙◌, map, arith}
use Rattle.graphs.specs.Rounds.{Awaits}
use Rattle.graphs.proofs.Placed.{up-to, awaits-longer}
use Rattle.graphs.proofs.order_building.look_at_all.Goals as goal

pub loop-vertex-preserved : goal.loop-vertex-preserved
loop-vertex-preserved c = record {
  marks = c.in_ok-look.ensures.marks ∙ c.loop-vertex.invariant.marks;
  passed = c.in_ok-look.ensures.passed ∙ c.loop-vertex.invariant.passed;
  placing = c.in_ok-look.ensures.placing;
  awaits = up-to (Awaits (map (λ v. v.items) c.args.edges.now) c.look.new.order.items 0) c.loop-vertex.vertex
      (λ a lt. awaits-longer (map (λ v. v.items) c.args.edges.now) c.loop-vertex.order.items c.look.new.order.items 0 a
      c.in_ok-look.ensures.extends (omega arith) (c.loop-vertex.invariant.awaits a lt)) (c.in_ok-look.ensures.awaits 0);
}
