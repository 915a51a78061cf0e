use Rattle.std.proofs.Common.{length}
use Rattle.rule_values.proofs.variables.+find.Given as goal

abbrev pub decreases-find : goal.decreases-find
decreases-find l = length l.variables.now
