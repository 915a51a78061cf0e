use Rattle.std.proofs.Common.{◌≡◌, ◌<◌, ◌+◌, ℕ, List, length, refl, subst, arith}
use Rattle.partitions.specs.Views.{layout}
use Rattle.partition_edges.specs.declared.edges.Edge.{Edge}
use Rattle.partition_edges.specs.steps.Steps.{Adds}
use Rattle.partition_edges.proofs.Gathering.{IsFirst, adds_both, first_more}
use Rattle.partition_edges.proofs.edge_keys.push_edges.Goals as goal

pub loop-edge-preserved : goal.loop-edge-preserved
loop-edge-preserved c =
    let es : List Edge = c.args.edges.now in
    let k : ℕ = c.loop-edge.edge-index in
    let inside : k < length es = omega arith in
    adds_both (layout c.args.groups.now) c.args.class _ _ (IsFirst es (k + 1)) _ _ _ c.loop-edge.invariant
    c.in_ok-push_edge.ensures (λ e. first_more es k _ (record { position = 0; source = 0; target = 0 }) e inside refl)

pub returns : goal.returns
returns c =
    let es : List Edge = c.args.edges.now in
    let done : c.loop-edge.edge-index ≡ length es = omega arith in
    subst (λ k. Adds (layout c.args.groups.now) c.args.class (IsFirst es k) c.args.pairs.now.items c.loop-edge.pairs.items)
    done c.loop-edge.invariant
