use Rattle.std.proofs.Common.{map, take}
use Rattle.graphs.specs.steps.Spans.{ArePlaced}
use Rattle.graphs.proofs.spans.firsts_of.Given as goal

abbrev pub invariant-loop-vertex : goal.invariant-loop-vertex
invariant-loop-vertex l =
    ArePlaced (map (λ v. v.items) l.edges) (take l.vertex-index l.order) l.spans.starts.items l.spans.sizes.items
    l.firsts.items
