use Rattle.std.proofs.Common.{◌∙◌, ap}
use Rattle.conformance.specs.Operations.{says}
use Rattle.rule_outcomes.proofs.outcome.said_of.Goals as goal

pub returns : goal.returns
returns c m = c.truth.ensures ∙ ap says (c.in_ok-value.ensures m)
