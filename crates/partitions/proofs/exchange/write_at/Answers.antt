use Rattle.std.proofs.Common.{arith}
use Rattle.partitions.proofs.exchange.write_at.Goals as goal

pub returns-clause-elsewhere : goal.returns-clause-elsewhere
returns-clause-elsewhere c = λ x h. c.loop-q.invariant.elsewhere x (λ k l. h k (omega arith))
