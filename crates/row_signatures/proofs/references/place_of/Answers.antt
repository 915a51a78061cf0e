use Rattle.row_signatures.proofs.Referring.{place_named}
use Rattle.row_signatures.proofs.references.place_of.Goals as goal

pub returns-in-Some : goal.returns-in-Some
returns-in-Some c = place_named c.args.input.now c.args.name c.in-Some.place c.requires c.in-Some.ensures.1
