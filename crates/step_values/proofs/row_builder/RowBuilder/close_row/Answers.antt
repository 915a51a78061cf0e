use Rattle.std.proofs.Common.{ap, length}
use Rattle.step_values.proofs.Built.{row_pushed, row_built}
use Rattle.step_values.proofs.row_builder.RowBuilder.close_row.Goals as goal

pub invariant_of-self-2 : goal.invariant_of-self-2
invariant_of-self-2 c =
    let v = c.self.inside in
    rw c.in_ok-push.ensures.items (row_pushed v.names.now v.cells v.runs.items _ c.close.result c.close.new.self
    c.self.invariant c.close.ensures (ap length c.column.ensures) c.pending_len.ensures)

pub returns : goal.returns
returns c =
    let v = c.self.inside in
    rw (c.in_ok-push.ensures.items, ← c.self.view_is) (row_built v.names.now v.cells v.runs.items _ c.close.result
    c.close.new.self c.self.invariant c.close.ensures (ap length c.column.ensures) c.pending_len.ensures)
