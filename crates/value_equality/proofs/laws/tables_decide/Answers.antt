use Rattle.value_equality.proofs.Rounds.{tables_decide}
use Rattle.value_equality.proofs.laws.tables_decide.Goals as goal

pub returns : goal.returns
returns c = tables_decide
