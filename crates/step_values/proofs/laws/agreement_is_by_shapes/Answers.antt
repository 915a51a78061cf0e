use Rattle.step_values.proofs.ByShapes.{agreement_is_by_shapes}
use Rattle.step_values.proofs.laws.agreement_is_by_shapes.Goals as goal

pub returns : goal.returns
returns c = agreement_is_by_shapes
