use Rattle.rule_evaluation.specs.steps.Kept.{IsRight}
use Rattle.rule_evaluation.proofs.Keeping.{every-at}
use Rattle.rule_evaluation.proofs.derived_values.KeptValues.find.Goals as goal

pub returns-then-is_same : goal.returns-then-is_same
returns-then-is_same c =
    let h = c.in_ok-kept.ensures.lookup in (
      c.is_same.ensures c.if-is_same.true,
      (λ S m right. every-at (IsRight S m) _ _ _ _ c.deref.ensures.value h.0 h.1 right),
    )
