use Rattle.step_values.proofs.Changes.{changes_decide}
use Rattle.step_values.proofs.laws.changes_decide.Goals as goal

pub returns : goal.returns
returns c = changes_decide
