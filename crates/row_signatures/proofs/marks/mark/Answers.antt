use Rattle.row_signatures.proofs.Marking.{as_marked, marked}
use Rattle.row_signatures.proofs.marks.mark.Goals as goal

pub returns-in_default : goal.returns-in_default
returns-in_default c P are =
    as_marked c.args.input.now P c.args.marks.now.items are c.args.name c.in_default.ensures
    c.len-rows.ensures.population.distinct

pub returns-then-place-len : goal.returns-then-place-len
returns-then-place-len c P are =
    marked c.args.input.now P c.args.marks.now.items are c.args.name c.in-Some.place c.in-Some.ensures.0
    c.in-Some.ensures.1 c.len-rows.ensures.population.distinct
