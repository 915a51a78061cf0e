use Rattle.std.proofs.Common.{◌≡◌, map, take}
use Rattle.rule_plans.specs.steps.Applying.{numbers_by}
use Rattle.rule_plans.proofs.applicable_rules.numbers_by_form.Given as goal

abbrev pub invariant-loop-form : goal.invariant-loop-form
invariant-loop-form l =
    map (λ v. v.items) l.rows.items ≡ map (numbers_by l.rules 0) (take l.form-index l.forms)
