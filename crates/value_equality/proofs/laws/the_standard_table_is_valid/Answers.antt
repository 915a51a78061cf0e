use Rattle.value_equality.proofs.Rounds.{standard_is_valid}
use Rattle.value_equality.proofs.laws.the_standard_table_is_valid.Goals as goal

pub returns : goal.returns
returns c = standard_is_valid
