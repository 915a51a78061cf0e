use Rattle.std.proofs.Common.{◌≡◌, map, take}
use Rattle.rule_plans.specs.steps.Unsought.{is_unsought_form}
use Rattle.rule_plans.proofs.skipped_attributes.unsought_forms.Given as goal

abbrev pub invariant-loop-form : goal.invariant-loop-form
invariant-loop-form l =
    l.rows.items ≡ map (is_unsought_form l.seeker l.uses l.declared) (take l.form-index l.forms)
