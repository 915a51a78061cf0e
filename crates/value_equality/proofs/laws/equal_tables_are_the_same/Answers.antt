use Rattle.value_equality.proofs.OneTable.{origins_decide, tables_decide}
use Rattle.value_equality.proofs.laws.equal_tables_are_the_same.Goals as goal

pub returns-clause-origins : goal.returns-clause-origins
returns-clause-origins c = origins_decide

pub returns-clause-tables : goal.returns-clause-tables
returns-clause-tables c = tables_decide
