use Rattle.std.proofs.Common.{rules}
use Rattle.row_signatures.proofs.shapes.first_of.Goals as goal

pub returns-clause-noted : goal.returns-clause-noted
returns-clause-noted g c s =
    let updates = c.in_ok-firsts.ensures.update.0 c.or_insert.result.now in
    let noted = updates.0 s in
    search (rules, noted)
