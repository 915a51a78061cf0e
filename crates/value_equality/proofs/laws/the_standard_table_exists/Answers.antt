use Rattle.value_equality.proofs.Existing.{the_standard_table_exists}
use Rattle.value_equality.proofs.laws.the_standard_table_exists.Goals as goal

pub returns : goal.returns
returns c = the_standard_table_exists
