use Rattle.std.proofs.Common.{◌≡◌, map, take}
use Rattle.merge_output_tests.proofs.members.members_of.Given as goal

abbrev pub invariant-loop-i : goal.invariant-loop-i
invariant-loop-i l = map (λ m. m.0) l.members.items ≡ take l.i l.names
