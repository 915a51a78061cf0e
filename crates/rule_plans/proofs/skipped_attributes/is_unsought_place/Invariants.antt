use Rattle.std.proofs.Common.{◌≡◌, drop}
use Rattle.rule_plans.specs.steps.Unsought.{is_unsought_place}
use Rattle.rule_plans.proofs.skipped_attributes.is_unsought_place.Given as goal

-- what is left decides
abbrev pub invariant-loop-each : goal.invariant-loop-each
invariant-loop-each l =
    is_unsought_place l.seeker l.uses (drop l.each-index l.types) l.place ≡ is_unsought_place l.seeker l.uses l.types l.place
