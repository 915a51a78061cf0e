use Rattle.std.proofs.Common.{◌≡◌, ◌<◌, ◌^◌, map, take}
use Rattle.std.specs.List.{All}
use Rattle.value_equality.specs.Rows.{names}
use Rattle.value_equality.specs.TableViews.{member_of}
use Rattle.merge_classes.specs.Laws.{members_of}
use Rattle.merge_classes.proofs.tables.members.Given as goal

abbrev pub invariant-loop-place : goal.invariant-loop-place
invariant-loop-place l = record {
  members : map member_of l.members.items ≡ members_of (take l.place (names l.input)) (take l.place l.numbers);
  names : All (λ m. m.0 < 2 ^ 64) (map member_of l.members.items);
}
