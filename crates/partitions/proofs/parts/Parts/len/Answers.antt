use Rattle.std.proofs.Common.{arith}
use Rattle.partitions.proofs.parts.Parts.len.Goals as goal

pub overflow_cast-result : goal.overflow_cast-result
overflow_cast-result c = let few = c.requires.few in let e = c.len.ensures in let l = c.args.self.now.class.ok.0 in omega arith
