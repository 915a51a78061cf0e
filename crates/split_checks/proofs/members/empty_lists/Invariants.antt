use Rattle.std.proofs.Common.{◌≡◌, ℕ, [], length}
use Rattle.split_checks.specs.steps.ComputedMembers.{row}
use Rattle.split_checks.proofs.members.empty_lists.Given as goal

abbrev pub invariant-loop : goal.invariant-loop
invariant-loop l = record {
  long : length l.lists.items ≡ l.counter;
  empty : (d : ℕ) → row l.lists.items d ≡ [];
}
