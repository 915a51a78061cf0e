use Rattle.std.proofs.Common.{subst}
use Rattle.step_values.specs.steps.Building.{Building, rows_by}
use Rattle.step_values.specs.steps.Targets.{ReferTo}
use Rattle.step_values.proofs.Built.{finished}
use Rattle.step_values.proofs.Referring.{rows_refer}
use Rattle.step_values.proofs.row_builder.RowBuilder.finish.Goals as goal

pub of-requires : goal.of-requires
of-requires c =
    let v = c.self.inside in
    rw c.into_column.ensures (finished v.names.now v.cells.column v.runs.items v.cells.pending c.args.self
    c.self.view_is c.self.invariant c.requires)

pub returns-clause-closed : goal.returns-clause-closed
returns-clause-closed c =
    let v = c.self.inside in
    rw (c.of.ensures.rows, c.into_column.ensures)
    (subst (λ (b : Building). ReferTo b.names (rows_by v.cells.column v.runs.items)) c.self.view_is
    (rows_refer v.names.now v.cells.column c.self.invariant.column_leads v.runs.items))
