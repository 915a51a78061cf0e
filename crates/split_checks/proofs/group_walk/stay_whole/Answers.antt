use Rattle.std.proofs.Common.{nat_eq}
use Rattle.partitions.specs.Views.{layout}
use Rattle.split_checks.proofs.Trying.{tried}
use Rattle.split_checks.proofs.group_walk.stay_whole.Goals as goal

pub returns : goal.returns
returns c =
    tried (layout c.args.groups.now) (layout c.part_by_pairs.new.self) c.args.pairs.items c.requires.laid
    c.in_ok-part_by_pairs.ensures (nat_eq c.count.result c.count-before.result)
    (λ i. nat_eq (c.count.ensures i) (c.count-before.ensures i))
