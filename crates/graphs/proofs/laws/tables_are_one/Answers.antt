use Rattle.graphs.proofs.Ordering.{tables-are-one}
use Rattle.graphs.proofs.laws.tables_are_one.Goals as goal

pub returns : goal.returns
returns g c = tables-are-one {X = g.row.X.Denot}
