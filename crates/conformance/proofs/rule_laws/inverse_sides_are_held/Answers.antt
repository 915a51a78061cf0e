use Rattle.conformance.proofs.Holding.{inverse_sides_are_held}
use Rattle.conformance.proofs.rule_laws.inverse_sides_are_held.Goals as goal

pub returns : goal.returns
returns c = inverse_sides_are_held
