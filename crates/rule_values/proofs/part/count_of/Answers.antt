use Rattle.std.proofs.Common.{sym}
use Rattle.rule_values.proofs.Elements.{size-instances}
use Rattle.rule_values.proofs.part.count_of.Goals as goal

pub returns : goal.returns
returns c = sym (size-instances c.args.names.now)
