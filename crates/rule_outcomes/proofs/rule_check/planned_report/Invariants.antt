use Rattle.std.proofs.Common.{length, take, flat_map}
use Rattle.rule_settings.specs.Settings.{Meant, population_in}
use Rattle.rule_outcomes.specs.ReportCounts.{Has, broken_in, open_in}
use Rattle.rule_outcomes.proofs.rule_check.planned_report.Given as goal

abbrev pub invariant-loop-row : goal.invariant-loop-row
invariant-loop-row l =
    (m : Meant l.evaluator.setting.now)
    → Has (flat_map (broken_in l.evaluator.setting.now m l.plan.rules.now) (take l.row (population_in l.evaluator.setting.now)))
    (length (flat_map (open_in l.evaluator.setting.now m l.plan.rules.now) (take l.row (population_in l.evaluator.setting.now)))) l.report
