use Rattle.std.proofs.Common.{◌≡◌, ◌++◌, drop}
use Rattle.rule_plans.specs.steps.Applying.{numbers_by}
use Rattle.rule_plans.proofs.applicable_rules.numbers_of.Given as goal

abbrev pub invariant-loop-number : goal.invariant-loop-number
invariant-loop-number l =
    l.numbers.items ++ numbers_by (drop l.number l.rules) l.number l.form ≡ numbers_by l.rules 0 l.form
