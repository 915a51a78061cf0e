use Rattle.std.proofs.Common.{◌≡◌, length}
use Rattle.certificate_checks.specs.steps.ComputedFirsts.{TellsFrom}
use Rattle.certificate_checks.proofs.first_members.firsts_by_class.Given as goal

abbrev pub invariant-loop-i : goal.invariant-loop-i
invariant-loop-i l = (length l.firsts.items ≡ l.count) × TellsFrom l.members l.firsts.items l.i
