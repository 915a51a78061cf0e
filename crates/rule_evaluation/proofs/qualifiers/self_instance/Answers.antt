use Rattle.std.proofs.Common.{ap, sym}
use Rattle.conformance.specs.Operations.{bare}
use Rattle.rule_values.specs.Parts.{element_datum}
use Rattle.rule_evaluation.specs.steps.Contexts.{instance_of}
use Rattle.rule_evaluation.proofs.qualifiers.self_instance.Goals as goal

pub returns-in-Instance : goal.returns-in-Instance
unfolding element_datum
returns-in-Instance c = ap (λ e. instance_of (bare (element_datum e))) (sym c.in-Instance.is)
