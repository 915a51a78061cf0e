use Rattle.std.proofs.Common.{◌≡◌, take}
use Rattle.certificate_checks.specs.steps.ComputedStability.{classes_of}
use Rattle.certificate_checks.proofs.classes.classes_of.Given as goal

abbrev pub invariant-loop-member : goal.invariant-loop-member
invariant-loop-member l = l.classes.items ≡ classes_of (take l.member-index l.members)
