use Rattle.std.proofs.Common.{◌≡◌, Some, ◌∙◌, ap, sym, arith}
use Rattle.step_values.specs.Cells.{value_at, values_of_run}
use Rattle.step_values.specs.AgreementTests.{value_count}
use Rattle.step_values.specs.steps.Slots.{nth}
use Rattle.step_values.proofs.Reading.{run_size, nth_run}
use Rattle.step_values.proofs.slot.Slots.at.Goals as goal

pub overflow_add-self-inside : goal.overflow_add-self-inside
overflow_add-self-inside c =
    let v = c.self.inside in
    let asked = c.requires in
    let seen : value_count (values_of_run v.column.now v.run) ≡ value_count c.args.self.now = ap value_count c.self.view_is in
    let counted = run_size (value_at v.column.now) v.run in
    let end = c.self.invariant.1 in
    let told = c.self.told in
    omega (arith, asked, seen, counted, end, told)

pub of-requires-clause-place : goal.of-requires-clause-place
of-requires-clause-place c =
    let v = c.self.inside in
    let asked = c.requires in
    let seen : value_count (values_of_run v.column.now v.run) ≡ value_count c.args.self.now = ap value_count c.self.view_is in
    let counted = run_size (value_at v.column.now) v.run in
    let end = c.self.invariant.1 in
    omega (arith, asked, seen, counted, end)

pub returns : goal.returns
returns c =
    let v = c.self.inside in
    let asked = c.requires in
    let seen : value_count (values_of_run v.column.now v.run) ≡ value_count c.args.self.now = ap value_count c.self.view_is in
    let counted = run_size (value_at v.column.now) v.run in
    ap (λ vs. nth vs c.args.index) (sym c.self.view_is)
    ∙ nth_run (value_at v.column.now) v.run.first v.run.count c.args.index (omega (arith, asked, seen, counted))
    ∙ ap Some (sym c.of.ensures)
