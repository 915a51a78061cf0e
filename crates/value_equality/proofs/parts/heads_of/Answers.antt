use Rattle.std.proofs.Common.{arith}
use Rattle.value_equality.proofs.Parted.{numbered_next}
use Rattle.value_equality.proofs.parts.heads_of.Goals as goal

pub loop-i-preserved : goal.loop-i-preserved
loop-i-preserved c =
    numbered_next c.args.rows.now c.loop-i.heads.items c.loop-i.i c.index-rows-i.result
    (omega (arith, c.loop-i-test.true)) c.index-rows-i.is c.loop-i.invariant c.push.new.self.items
    c.in_ok-push.ensures.items
