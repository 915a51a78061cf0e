use Rattle.std.proofs.Common.{◌≡◌, ℕ, take, map}
use Rattle.certificate_checks.specs.steps.ComputedFirsts.{first_of}
use Rattle.certificate_checks.proofs.first_members.firsts_by_member.Given as goal

abbrev pub invariant-loop-i : goal.invariant-loop-i
invariant-loop-i l = l.firsts.items ≡ map (λ (m : ℕ × ℕ). first_of 0 l.members m.1) (take l.i l.members)
