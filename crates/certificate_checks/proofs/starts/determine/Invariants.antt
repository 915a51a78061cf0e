use Rattle.certificate_checks.specs.steps.ComputedStarts.{AreFromKinds}
use Rattle.certificate_checks.proofs.starts.determine.Given as goal

abbrev pub invariant-loop-place : goal.invariant-loop-place
invariant-loop-place l = AreFromKinds l.kinds l.classes l.place
