use Rattle.rule_outcomes.proofs.Worded.{elements_of_arrays_stand_at_their_indices}
use Rattle.rule_outcomes.proofs.laws.elements_of_arrays_stand_at_their_indices.Goals as goal

pub returns : goal.returns
returns c = elements_of_arrays_stand_at_their_indices
