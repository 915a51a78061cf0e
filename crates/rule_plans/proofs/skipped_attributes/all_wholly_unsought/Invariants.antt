use Rattle.std.proofs.Common.{◌≡◌, drop}
use Rattle.rule_plans.specs.steps.Unsought.{all_wholly_unsought}
use Rattle.rule_plans.proofs.skipped_attributes.all_wholly_unsought.Given as goal

-- what is left decides
abbrev pub invariant-loop-slot : goal.invariant-loop-slot
invariant-loop-slot l =
    all_wholly_unsought l.seeker l.asked.uses.now l.asked.declared.now l.asked.types.now (drop l.slot-index l.slots)
    ≡ all_wholly_unsought l.seeker l.asked.uses.now l.asked.declared.now l.asked.types.now l.slots
