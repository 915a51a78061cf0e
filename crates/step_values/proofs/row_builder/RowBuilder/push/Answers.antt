use Rattle.std.proofs.Common.{subst, sym}
use Rattle.step_values.specs.Cells.{flat_value, value_at}
use Rattle.step_values.specs.steps.Building.{Building}
use Rattle.step_values.specs.steps.Targets.{LeadTo, target_of}
use Rattle.step_values.proofs.Built.{pending_pushed, pending_built, flat_one, flat_says}
use Rattle.step_values.proofs.row_builder.RowBuilder.push.Goals as goal

pub invariant_of-self-2 : goal.invariant_of-self-2
invariant_of-self-2 c =
    let v = c.self.inside in
    rw c.in_ok-push_pending.ensures (pending_pushed v.names.now v.cells.column v.runs.items v.cells.pending c.args.cell
    c.self.invariant c.requires.flat (subst (λ (b : Building). LeadTo b.names (target_of c.args.cell))
    (sym c.self.view_is) c.requires.leads) (flat_one (value_at v.cells.column) c.args.cell c.requires.flat))

pub returns : goal.returns
returns c =
    let v = c.self.inside in
    rw (c.in_ok-push_pending.ensures, ← c.self.view_is) (pending_built v.names.now v.cells.column v.runs.items
    v.cells.pending c.args.cell (flat_value c.args.cell)
    (flat_says (value_at v.cells.column) c.args.cell c.requires.flat))
