use Rattle.std.proofs.Common.{ℕ, map, Bor}
use Rattle.std.specs.BTreeMap.{is_at}
use Rattle.std.specs.List.{list_any}
use Rattle.std.specs.Ordering.{nat_cmp}
use Rattle.row_signatures.specs.steps.ComputedMarks.{AreMarks}
use Rattle.row_signatures.proofs.marks.marks.Given as goal

abbrev pub invariant-loop-name : goal.invariant-loop-name
invariant-loop-name l = AreMarks l.input (λ y. list_any (is_at (nat_cmp y)) (map (λ (b : Bor ℕ). b.now) l.yielded)) l.marks.items
