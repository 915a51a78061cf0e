use Rattle.std.proofs.Common.{map, take}
use Rattle.graphs.specs.steps.Marking.{GoDown}
use Rattle.graphs.proofs.marks.spread_along.Given as goal

abbrev pub invariant-loop-vertex : goal.invariant-loop-vertex
invariant-loop-vertex l =
    GoDown (map (λ v. v.items) l.edges) (take l.vertex-index l.order) l.marked l.marks.items
