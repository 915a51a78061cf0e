use Rattle.std.proofs.Common.{subst, ◌∙◌}
use Rattle.express_logic.specs.Views.{datum_of}
use Rattle.rule_values.specs.Parts.{holding}
use Rattle.rule_evaluation.specs.steps.Kept.{IsWorth}
use Rattle.rule_evaluation.proofs.derived_values.KeptValues.put.Goals as goal

pub returns : goal.returns
returns c holds S m right =
    let worth = c.in-Some.ensures.1 S m right in
    subst (λ w. IsWorth S m w (datum_of holding c.in_ok-known.known)) c.in-Some.ensures.0
    (λ number f is. c.in_ok-known.ensures ∙ worth number f is)
