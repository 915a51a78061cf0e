use Rattle.parsing.proofs.Buffers.{pending_pushed}
use Rattle.parsing.proofs.column.Column.push_pending.Goals as goal

pub returns : goal.returns
returns g c =
    let v = c.self.inside in
    rw (← c.self.view_is)
    (pending_pushed v.cells.items c.with_room.new.cells.items v.len v.top c.in_ok-top.top c.args.cell
    c.in_ok-top.ensures)
