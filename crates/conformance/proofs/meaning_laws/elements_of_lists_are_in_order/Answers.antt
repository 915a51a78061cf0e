use Rattle.conformance.proofs.Indices.{elements_of_lists_are_in_order}
use Rattle.conformance.proofs.meaning_laws.elements_of_lists_are_in_order.Goals as goal

pub returns : goal.returns
returns c = elements_of_lists_are_in_order
