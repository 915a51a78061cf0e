use Rattle.std.proofs.Common.{◌≡◌, Some, length, slice_get}
use Rattle.conformance.specs.Populations.{Instance}
use Rattle.schema_domain_rules.specs.declared.rule.RuleHolder.TheVariants as holders
use Rattle.rule_settings.specs.Settings.{Meant, population_in}
use Rattle.graphs.specs.steps.Telling.{is_under}
use Rattle.rule_outcomes.specs.Outcomes.{said_of, said_by}
use Rattle.rule_outcomes.proofs.Least.{least_with}
use Rattle.rule_outcomes.proofs.Stating.{said_of_those}
use Rattle.rule_outcomes.proofs.outcome.type_outcome.Given as goal

-- what is left decides
abbrev pub invariant-loop-value : goal.invariant-loop-value
invariant-loop-value l =
    (m : Meant l.evaluator.setting.now) (x : Instance) → slice_get (population_in l.evaluator.setting.now) l.row ≡ Some x
    → least_with (said_of_those (λ i. is_under l.plan.renamed i l.declared) (said_of l.evaluator.setting.now m l.rule) l.values.items)
    l.outcome
    ≡ said_by l.evaluator.setting.now m x l.rule (holders.Type l.declared)

abbrev pub decreases-loop-value : goal.decreases-loop-value
decreases-loop-value l = length l.values.items
