use Rattle.std.proofs.Common.{◌∙◌, ap, sym}
use Rattle.step_values.specs.Cells.{value_at}
use Rattle.step_values.specs.AgreementTests.{value_count}
use Rattle.step_values.proofs.Reading.{run_size}
use Rattle.step_values.proofs.slot.Slots.len.Goals as goal

pub returns : goal.returns
returns c =
    let v = c.self.inside in
    sym (run_size (value_at v.column.now) v.run) ∙ ap value_count c.self.view_is
