use Rattle.conformance.proofs.Keys.{repeats_come_later}
use Rattle.conformance.proofs.rule_laws.repeats_come_later.Goals as goal

pub returns : goal.returns
returns c = repeats_come_later
