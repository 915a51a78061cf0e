use Rattle.std.proofs.Common.{refl}
use Rattle.step_records.proofs.Built.{pending_dropped}
use Rattle.step_records.proofs.builder.Builder.finish.Goals as goal

pub of-requires : goal.of-requires
of-requires c =
    let v = c.self.inside in
    rw c.into_column.ensures (pending_dropped v.text.now v.cells.column v.kept.items v.cells.pending c.self.invariant)

pub returns : goal.returns
returns c = rw (c.of.ensures, c.into_column.ensures, ← c.self.view_is) refl
