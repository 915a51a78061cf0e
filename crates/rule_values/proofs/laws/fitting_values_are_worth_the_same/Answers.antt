use Rattle.rule_values.proofs.Worth.{fitting_values_are_worth_the_same}
use Rattle.rule_values.proofs.laws.fitting_values_are_worth_the_same.Goals as goal

pub returns : goal.returns
returns c = fitting_values_are_worth_the_same
