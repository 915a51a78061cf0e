use Rattle.conformance.proofs.Lesser.{derived_are_their_expressions}
use Rattle.conformance.proofs.meaning_laws.derived_are_their_expressions.Goals as goal

pub returns : goal.returns
returns c = derived_are_their_expressions
