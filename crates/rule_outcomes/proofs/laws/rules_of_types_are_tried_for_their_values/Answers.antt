use Rattle.rule_outcomes.proofs.Tried.{rules_of_types_are_tried_for_their_values}
use Rattle.rule_outcomes.proofs.laws.rules_of_types_are_tried_for_their_values.Goals as goal

pub returns : goal.returns
returns c = rules_of_types_are_tried_for_their_values
