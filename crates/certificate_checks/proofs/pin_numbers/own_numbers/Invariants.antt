use Rattle.value_equality.specs.Maps.{is_pinned}
use Rattle.certificate_checks.specs.steps.ComputedSplits.{AreOwn}
use Rattle.certificate_checks.proofs.pin_numbers.own_numbers.Given as goal

abbrev pub invariant-loop-place : goal.invariant-loop-place
invariant-loop-place l = AreOwn l.input (is_pinned l.pinned) l.numbers.items l.place
