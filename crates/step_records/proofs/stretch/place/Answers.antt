use Rattle.std.proofs.Common.{subst}
use Rattle.parsing.specs.Nodes.{said_at}
use Rattle.step_records.specs.Cells.{parameters}
use Rattle.step_records.specs.steps.Places.{Stands}
use Rattle.step_records.proofs.Joined.{list_says, list_text, some_else}
use Rattle.step_records.proofs.stretch.place.Goals as goal

pub list_place-requires : goal.list_place-requires
list_place-requires c = list_text c.args.text.now c.args.column.now c.args.cell c.part.result.now c.requires
    c.part.ensures

pub returns-in-List : goal.returns-in-List
returns-in-List c =
    let tree = list_says c.args.text.now c.args.column.now c.args.cell c.part.result.now c.requires c.in-List.is
    c.part.ensures in
    some_else c.list_place.result
    (λ s h. subst (λ t. Stands c.args.text.now t s.from s.end) tree (h c.args.column.now)) c.list_place.ensures

pub returns-in_default : goal.returns-in_default
returns-in_default c = some_else c.literal_place.result
    (λ s h. h (said_at (parameters c.args.text.now) c.args.column.now)) c.literal_place.ensures
