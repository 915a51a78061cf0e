use Rattle.value_equality.proofs.Unique.{standard_is_unique}
use Rattle.value_equality.proofs.laws.the_standard_table_is_unique.Goals as goal

pub returns : goal.returns
returns c = standard_is_unique
