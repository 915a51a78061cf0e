use Rattle.std.proofs.Common.{arith}
use Rattle.partitions.specs.Views.{layout}
use Rattle.partitions.proofs.Splitting.{count_few}
use Rattle.partition_refinement.proofs.refinement.class_count.Goals as goal

pub overflow_cast-result : goal.overflow_cast-result
overflow_cast-result c = let few = count_few (layout c.args.parts.now) c.requires in let e = c.count.ensures in omega arith
