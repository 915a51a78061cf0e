use Rattle.std.proofs.Common.{◌≡◌, map, drop}
use Rattle.value_equality.specs.Tables.{last_class}
use Rattle.value_equality.specs.TableViews.{member_of}
use Rattle.value_equality.proofs.table.last_class.Given as goal

-- what is left decides
abbrev pub invariant-loop-member : goal.invariant-loop-member
invariant-loop-member l = last_class (map member_of (drop l.member-index l.members)) l.name ≡ last_class
    (map member_of l.members) l.name
