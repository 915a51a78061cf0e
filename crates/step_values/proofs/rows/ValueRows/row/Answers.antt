use Rattle.std.proofs.Common.{◌≡◌, ◌<◌, Some, length, slice_get, ◌∙◌, ap, sym, arith}
use Rattle.std.specs.Prelude.{option_map}
use Rattle.std.proofs.lemmas.List.{length-map}
use Rattle.std.proofs.lemmas.Option.{slice_get-get_or, slice_get-map}
use Rattle.step_values.specs.steps.Building.{rows_by}
use Rattle.step_values.specs.Cells.{values_of_run}
use Rattle.step_values.proofs.Reading.{within_at}
use Rattle.step_values.proofs.rows.ValueRows.row.Goals as goal

pub of-requires-clause-within : goal.of-requires-clause-within
of-requires-clause-within c =
    let v = c.self.inside in
    let asked = c.requires in
    let seen : length (rows_by v.column.items v.runs.items) ≡ length c.args.self.now.rows =
    ap (λ k. length k.rows) c.self.view_is in
    let counted = length-map v.runs.items (values_of_run v.column.items) in
    let within : c.args.index < length v.runs.items = omega (arith, asked, seen, counted) in
    let here = slice_get-get_or v.runs.items c.args.index c.index.result.now within ∙ ap Some (sym c.index.ensures) in
    let fits = within_at (length v.column.items) v.runs.items c.args.index c.index.result.now
    c.self.invariant.within here in
    rw c.deref.ensures.value fits

pub returns : goal.returns
returns c =
    let v = c.self.inside in
    let asked = c.requires in
    let seen : length (rows_by v.column.items v.runs.items) ≡ length c.args.self.now.rows =
    ap (λ k. length k.rows) c.self.view_is in
    let counted = length-map v.runs.items (values_of_run v.column.items) in
    let within : c.args.index < length v.runs.items = omega (arith, asked, seen, counted) in
    let here = slice_get-get_or v.runs.items c.args.index c.index.result.now within ∙ ap Some (sym c.index.ensures) in
    let row = values_of_run v.column.items in
    ap (λ k. slice_get k.rows c.args.index) (sym c.self.view_is) ∙ slice_get-map row v.runs.items c.args.index
    ∙ ap (option_map row) here
    ∙ ap (λ column. Some (values_of_run column c.index.result.now)) (sym c.deref.ensures.value)
    ∙ ap Some (sym c.of.ensures)
