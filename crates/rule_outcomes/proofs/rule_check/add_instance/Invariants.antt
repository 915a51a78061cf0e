use Rattle.std.proofs.Common.{◌≡◌, Some, length, take, slice_get}
use Rattle.conformance.specs.Populations.{Instance}
use Rattle.rule_settings.specs.Settings.{Meant, population_in}
use Rattle.rule_outcomes.specs.ReportCounts.{Counts, broken_at, open_at}
use Rattle.rule_plans.specs.steps.Planning.{TellAll}
use Rattle.rule_outcomes.proofs.rule_check.add_instance.Given as goal

abbrev pub invariant-loop-number : goal.invariant-loop-number
invariant-loop-number l =
    (m : Meant l.evaluator.setting.now) (x : Instance)
    → slice_get (population_in l.evaluator.setting.now) l.tried.row ≡ Some x → l.tried.name ≡ x.name
    → TellAll l.evaluator.setting.now m x l.tried.types.now l.plan.rules.now
    → Counts (broken_at l.evaluator.setting.now m x l.plan.rules.now (take l.number-index l.tried.numbers.now))
    (length (open_at l.evaluator.setting.now m x l.plan.rules.now (take l.number-index l.tried.numbers.now))) l.initial.report
    l.report
