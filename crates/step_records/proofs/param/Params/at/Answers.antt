use Rattle.std.proofs.Common.{◌∙◌, [], Some, slice_get, ap, sym}
use Rattle.std.specs.Prelude.{option_map}
use Rattle.std.proofs.lemmas.Option.{slice_get-get_or, slice_get-map}
use Rattle.step_records.specs.steps.Building.{tree_of}
use Rattle.step_records.proofs.Runs.{one_builds, within_cells}
use Rattle.step_records.proofs.param.Params.at.Goals as goal

pub of-requires : goal.of-requires
of-requires c =
    let v = c.self.inside in
    let within = within_cells v.text.now v.column.now v.cells.now c.args.self.now c.args.index c.self.view_is
    c.requires in
    let got = slice_get-get_or v.cells.now c.args.index _ within in
    one_builds v.text.now v.column.now v.cells.now [] c.args.index _ got c.self.invariant

pub returns : goal.returns
returns c =
    let v = c.self.inside in
    let within = within_cells v.text.now v.column.now v.cells.now c.args.self.now c.args.index c.self.view_is
    c.requires in
    let says = tree_of v.text.now v.column.now in
    ap (λ xs. slice_get xs c.args.index) (sym c.self.view_is) ∙ slice_get-map says v.cells.now c.args.index
    ∙ ap (option_map says) (slice_get-get_or v.cells.now c.args.index _ within) ∙ ap Some (sym c.of.ensures)
