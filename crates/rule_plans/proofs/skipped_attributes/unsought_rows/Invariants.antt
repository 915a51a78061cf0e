use Rattle.std.proofs.Common.{◌≡◌, map, take}
use Rattle.rule_plans.specs.steps.Unsought.{unsought_of}
use Rattle.rule_plans.proofs.skipped_attributes.unsought_rows.Given as goal

abbrev pub invariant-loop-form : goal.invariant-loop-form
invariant-loop-form l =
    map (λ v. v.items) l.rows.items ≡ map (unsought_of l.seeker l.uses) (take l.form-index l.forms)
