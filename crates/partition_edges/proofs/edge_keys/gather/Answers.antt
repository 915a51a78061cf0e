use Rattle.std.proofs.Common.{◌≡◌, arith, subst, sym}
use Rattle.partitions.specs.Layouts.{size}
use Rattle.partitions.specs.Views.{layout}
use Rattle.partition_edges.specs.steps.Steps.{Gathers}
use Rattle.partition_edges.specs.steps.Steps.{AreFrom}
use Rattle.partition_edges.proofs.Gathering.{edges_from, gathers_more}
use Rattle.partition_edges.proofs.edge_keys.gather.Goals as goal

pub push_members-requires-clause-there : goal.push_members-requires-clause-there
push_members-requires-clause-there c =
    subst (λ n. AreFrom n c.args.edges.now) (sym c.requires.places)
    (edges_from (size (layout c.args.parts.now)) c.args.edges.now c.requires.edges)

pub loop-class-preserved : goal.loop-class-preserved
loop-class-preserved c =
    gathers_more c.args.edges.now (layout c.args.parts.now) (layout c.args.groups.now) c.args.low c.loop-class.class _ _ c.members.result.now
    (omega arith) c.loop-class.invariant c.members.ensures c.in_ok-push_members.ensures

pub returns : goal.returns
returns c =
    let done : c.loop-class.class ≡ c.args.high = omega arith in
    subst (λ k. Gathers c.args.edges.now (layout c.args.parts.now) (layout c.args.groups.now) c.args.low k
    c.loop-class.pairs.items) done c.loop-class.invariant
