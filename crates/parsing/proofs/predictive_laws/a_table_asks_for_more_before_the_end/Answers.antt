use Rattle.parsing.proofs.Accepted.{asks_before_end}
use Rattle.parsing.proofs.predictive_laws.a_table_asks_for_more_before_the_end.Goals as goal

pub returns : goal.returns
returns g c = asks_before_end g.row.S.Denot g.row.W.Denot g.row.K.Denot
