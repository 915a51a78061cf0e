use Rattle.std.proofs.Common.{◌≡◌}
use Rattle.step_values.proofs.Walks.{after}
use Rattle.rule_plans.specs.steps.Flat.{are_plain}
use Rattle.rule_plans.proofs.flat_values.are_plain.Given as goal

-- what is left decides
abbrev pub invariant-loop-i : goal.invariant-loop-i
invariant-loop-i l = are_plain (after l.i l.values) ≡ are_plain l.values
