use Rattle.std.proofs.Common.{arith, ap, length}
use Rattle.step_literals.proofs.CleanLemmas.{clean_le}
use Rattle.step_literals.proofs.clean.hex_count.Goals as goal

pub overflow_add-len : goal.overflow_add-len
overflow_add-len c = omega (arith, clean_le c.args.bytes.now, ap length c.in-Some.ensures.first)
