use Rattle.std.proofs.Common.{◌≡◌, map, take}
use Rattle.value_equality.specs.TableViews.{table_of}
use Rattle.merge_output.specs.steps.Rewriting.{members, first_of_class}
use Rattle.merge_output.proofs.FirstHeads.{AreFirsts}
use Rattle.merge_output.proofs.first_members.heads_of.Given as goal

abbrev pub invariant-loop-i : goal.invariant-loop-i
invariant-loop-i l =
    AreFirsts (table_of l.table) l.firsts.items (take l.i (members (table_of l.table)))
    × (l.heads.items ≡ map (first_of_class (table_of l.table)) (take l.i (members (table_of l.table))))
