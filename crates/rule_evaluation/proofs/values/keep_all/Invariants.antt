use Rattle.rule_settings.specs.Settings.{Meant}
use Rattle.rule_evaluation.specs.steps.Kept.{AreRight}
use Rattle.rule_evaluation.proofs.values.keep_all.Given as goal

abbrev pub invariant-loop : goal.invariant-loop
invariant-loop l = (m : Meant l.setting) → AreRight l.setting m l.fn.kept → AreRight l.setting m l.kept
