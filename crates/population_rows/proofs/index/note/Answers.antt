use Rattle.population_rows.proofs.Noted.{told-first}
use Rattle.population_rows.proofs.index.note.Goals as goal

pub returns-then-index-eq0 : goal.returns-then-index-eq0
returns-then-index-eq0 c =
    told-first c.args.rows.now.items c.args.place c.args.row c.index.result.now c.requires.within c.index.ensures
    c.if-index-eq0.true
