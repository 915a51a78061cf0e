use Rattle.std.proofs.Common.{◌≡◌, take}
use Rattle.certificate_checks.specs.steps.ComputedParents.{led_by_classes}
use Rattle.certificate_checks.proofs.classes.led_by_classes.Given as goal

abbrev pub invariant-loop-member : goal.invariant-loop-member
invariant-loop-member l = l.classes.items ≡ led_by_classes l.ancestors (take l.member-index l.members)
