use Rattle.conformance.proofs.Checked.{checked_names_mean_one}
use Rattle.conformance.proofs.rule_laws.checked_names_mean_one.Goals as goal

pub returns : goal.returns
returns c = checked_names_mean_one
