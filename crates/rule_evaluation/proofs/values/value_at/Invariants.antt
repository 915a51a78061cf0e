use Rattle.std.proofs.Common.{◌≡◌}
use Rattle.rule_settings.specs.Settings.{Meant}
use Rattle.rule_evaluation.specs.steps.Kept.{AreRight}
use Rattle.rule_evaluation.proofs.values.value_at.Given as goal

abbrev pub invariant-loop : goal.invariant-loop
invariant-loop l = record {
  kept : (m : Meant l.setting) → AreRight l.setting m l.kept;
  same : l.me ≡ l.fn.me;
}
