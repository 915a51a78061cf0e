use Rattle.std.proofs.Common.{◌≡◌, drop}
use Rattle.schema_redeclarations.specs.Uses.{of_place}
use Rattle.rule_plans.specs.steps.Unsought.{all_unsought}
use Rattle.rule_plans.proofs.skipped_attributes.all_unsought.Given as goal

-- what is left decides
abbrev pub invariant-loop-each : goal.invariant-loop-each
invariant-loop-each l =
    all_unsought l.seeker (of_place l.place (drop l.each-index l.uses)) ≡ all_unsought l.seeker (of_place l.place l.uses)
