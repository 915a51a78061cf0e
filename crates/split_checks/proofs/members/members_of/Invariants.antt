use Rattle.split_checks.proofs.Rows.{HoldFirst}
use Rattle.split_checks.proofs.members.members_of.Given as goal

abbrev pub invariant-loop-place : goal.invariant-loop-place
invariant-loop-place l = HoldFirst l.last l.lists.items l.classes l.place
