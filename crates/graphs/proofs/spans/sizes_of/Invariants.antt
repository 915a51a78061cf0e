use Rattle.std.proofs.Common.{◌≤◌, length, map, take}
use Rattle.graphs.specs.steps.Spans.{Sized}
use Rattle.graphs.proofs.spans.sizes_of.Given as goal

abbrev pub invariant-loop-left : goal.invariant-loop-left
invariant-loop-left l =
    record {
      within : l.left ≤ length l.order;
      sized : Sized (map (λ v. v.items) l.edges) (take l.left l.order) l.spans.starts.items l.spans.sizes.items;
    }

abbrev pub decreases-loop-left : goal.decreases-loop-left
decreases-loop-left l = l.left
