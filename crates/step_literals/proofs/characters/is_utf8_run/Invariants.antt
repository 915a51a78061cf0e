use Rattle.std.proofs.Common.{◌≡◌, length}
use Rattle.std.specs.Str.{is_utf8}
use Rattle.step_literals.specs.Strings.{clean}
use Rattle.step_literals.specs.steps.Characters.{high_run}
use Rattle.step_literals.proofs.characters.is_utf8_run.Given as goal

abbrev pub invariant-loop-after : goal.invariant-loop-after
invariant-loop-after l = is_utf8 (high_run (clean l.bytes)) ≡ is_utf8 (high_run (clean l.rest))

abbrev pub decreases-loop-after : goal.decreases-loop-after
decreases-loop-after l = length (clean l.rest)
