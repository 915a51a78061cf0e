use Rattle.conformance.proofs.Deciding.{pins_have_tests}
use Rattle.conformance.proofs.rule_laws.pins_have_tests.Goals as goal

pub returns : goal.returns
returns c = pins_have_tests
