use Rattle.partitions.specs.Views.{layout}
use Rattle.partition_edges.proofs.Gathering.{adds_alone, adds_one}
use Rattle.partition_edges.proofs.edge_keys.push_edge.Goals as goal

pub returns-then-is_alone : goal.returns-then-is_alone
returns-then-is_alone c =
    adds_alone (layout c.args.groups.now) c.args.class c.args.edge c.args.pairs.now.items
    (c.is_alone.ensures c.if-is_alone.true)

pub returns : goal.returns
returns c =
    adds_one (layout c.args.groups.now) c.args.class c.args.edge c.args.pairs.now.items c.push.new.self.items
    c.in_ok-push.ensures.items
