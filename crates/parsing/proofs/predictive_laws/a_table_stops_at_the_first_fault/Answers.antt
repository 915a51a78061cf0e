use Rattle.parsing.proofs.Accepted.{stops_at_first}
use Rattle.parsing.proofs.predictive_laws.a_table_stops_at_the_first_fault.Goals as goal

pub returns : goal.returns
returns g c = stops_at_first g.row.S.Denot g.row.W.Denot g.row.K.Denot
