use Rattle.std.proofs.Common.{sym, arith}
use Rattle.step_values.proofs.Reading.{nth_over}
use Rattle.step_values.proofs.slot.Slots.item.Goals as goal

pub returns-else-index-len : goal.returns-else-index-len
returns-else-index-len c =
    let past = c.if-index-len.false in
    let all = c.len.ensures in
    sym (nth_over c.args.self.now c.args.index (omega (arith, past, all)))
