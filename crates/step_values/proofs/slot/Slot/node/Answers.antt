use Rattle.std.proofs.Common.{◌∙◌, sym}
use Rattle.std.proofs.lemmas.Option.{slice_get-get_or}
use Rattle.step_values.proofs.Places.{place_said}
use Rattle.step_values.proofs.slot.Slot.node.Goals as goal

pub returns : goal.returns
returns c =
    let v = c.self.inside in
    c.cell_node.ensures ∙ sym (place_said v.column.now c.self.invariant.0 v.place _
    (slice_get-get_or v.column.now v.place c.index-self-self.result c.self.invariant.1)) ∙ c.self.view_is
