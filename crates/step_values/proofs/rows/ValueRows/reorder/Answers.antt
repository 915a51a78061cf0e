use Rattle.std.proofs.Common.{◌∙◌, ap}
use Rattle.step_values.proofs.Reordered.{run_fits, positions_within, picked_size, holds_back, rows_back, leads_back}
use Rattle.step_values.proofs.rows.ValueRows.reorder.Goals as goal

pub cells_of-requires : goal.cells_of-requires
cells_of-requires c =
    let v = c.self.inside in
    run_fits v.column.items v.runs.items c.self.invariant c.args.self.now.rows (ap (λ k. k.rows) c.self.view_is)
    c.args.index c.requires.row c.index-run.result.now c.index-run.ensures c.args.positions.now c.requires.order c.deref.result.now c.deref.ensures.value

pub pick-requires : goal.pick-requires
pick-requires c =
    let v = c.self.inside in
    positions_within v.column.items v.runs.items c.self.invariant c.args.self.now.rows (ap (λ k. k.rows) c.self.view_is)
    c.args.index c.requires.row c.index-run.result.now c.index-run.ensures c.args.positions.now c.requires.order c.deref.result.now c.cells_of.result.now c.deref.ensures.value c.cells_of.ensures

pub write_over-requires-clause-within : goal.write_over-requires-clause-within
write_over-requires-clause-within c =
    let v = c.self.inside in
    run_fits v.column.items v.runs.items c.self.invariant c.args.self.now.rows (ap (λ k. k.rows) c.self.view_is)
    c.args.index c.requires.row c.index-run.result.now c.index-run.ensures c.args.positions.now c.requires.order c.as_mut_slice.result.now c.as_mut_slice.ensures.value

pub write_over-requires-clause-each : goal.write_over-requires-clause-each
write_over-requires-clause-each c =
    let v = c.self.inside in
    picked_size v.column.items v.runs.items c.self.invariant c.args.self.now.rows (ap (λ k. k.rows) c.self.view_is)
    c.args.index c.requires.row c.index-run.result.now c.index-run.ensures c.args.positions.now c.requires.order c.deref.result.now c.cells_of.result.now c.deref.ensures.value c.cells_of.ensures
    c.deref-2.result.now (c.deref-2.ensures.value ∙ c.in_ok-pick.ensures)

pub invariant_of-self : goal.invariant_of-self
invariant_of-self c =
    let v = c.self.inside in
    holds_back v.column.items v.runs.items c.self.invariant c.args.self.now.rows (ap (λ k. k.rows) c.self.view_is)
    c.args.index c.requires.row c.index-run.result.now c.index-run.ensures c.args.positions.now c.requires.order c.deref.result.now c.cells_of.result.now c.deref.ensures.value c.cells_of.ensures
    c.deref-2.result.now (c.deref-2.ensures.value ∙ c.in_ok-pick.ensures)
    v.column.len c.as_mut_slice.result.now c.write_over.new.column v.column.ok.0 c.as_mut_slice.ensures.value
    c.write_over.ensures

pub returns-clause-rows : goal.returns-clause-rows
returns-clause-rows c =
    let v = c.self.inside in
    rows_back v.column.items v.runs.items c.self.invariant c.args.self.now.rows (ap (λ k. k.rows) c.self.view_is)
    c.args.index c.requires.row c.index-run.result.now c.index-run.ensures c.args.positions.now c.requires.order c.deref.result.now c.cells_of.result.now c.deref.ensures.value c.cells_of.ensures
    c.deref-2.result.now (c.deref-2.ensures.value ∙ c.in_ok-pick.ensures)
    v.column.len c.as_mut_slice.result.now c.write_over.new.column v.column.ok.0 c.as_mut_slice.ensures.value
    c.write_over.ensures

pub returns-clause-targets : goal.returns-clause-targets
returns-clause-targets c =
    let v = c.self.inside in
    leads_back v.column.items v.runs.items c.self.invariant c.args.self.now.rows (ap (λ k. k.rows) c.self.view_is)
    c.args.index c.requires.row c.index-run.result.now c.index-run.ensures c.args.positions.now c.requires.order c.deref.result.now c.cells_of.result.now c.deref.ensures.value c.cells_of.ensures
    c.deref-2.result.now (c.deref-2.ensures.value ∙ c.in_ok-pick.ensures)
    v.column.len c.as_mut_slice.result.now c.write_over.new.column v.column.ok.0 c.as_mut_slice.ensures.value
    c.write_over.ensures
    c.args.self.now.targets (ap (λ k. k.targets) c.self.view_is)
