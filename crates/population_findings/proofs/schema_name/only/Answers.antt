use Rattle.std.proofs.Common.{arith}
use Rattle.step_exchange.proofs.SchemaNames.{the_one}
use Rattle.population_findings.proofs.schema_name.only.Goals as goal

pub returns-then-len-eq1 : goal.returns-then-len-eq1
returns-then-len-eq1 c = the_one c.args.params.now c.at.result (omega arith) c.at.ensures
