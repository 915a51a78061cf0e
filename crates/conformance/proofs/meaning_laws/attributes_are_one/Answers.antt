use Rattle.conformance.proofs.MeaningOneness.{attributes_are_one}
use Rattle.conformance.proofs.meaning_laws.attributes_are_one.Goals as goal

pub returns : goal.returns
returns c = attributes_are_one
