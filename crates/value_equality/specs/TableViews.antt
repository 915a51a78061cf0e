-- The table that a table of the program represents.
use Rattle.std.specs.Prelude.{ℕ, Bool, map}
use Rattle.value_equality.specs.declared.table.Origin.{Origin}
use Rattle.value_equality.specs.declared.table.Origin.TheVariants.{Start, Split}
use Rattle.value_equality.specs.declared.table.Table.{Table}
use Rattle.value_equality.specs.contracts.table.OriginPartialEq.TheImpl.{ghosts as origins}
use Rattle.value_equality.specs.contracts.table.TablePartialEq.TheImpl.{ghosts as compared}
use Rattle.value_equality.specs.Tables as tables

abbrev pub origin_of : Origin → tables.Origin
origin_of Start = tables.Origin.start
origin_of (Split parent round) = tables.Origin.split parent round

abbrev pub member_of : ℕ × ℕ → ℕ × ℕ
member_of m = m

abbrev pub table_of : Table → tables.Table
table_of t = record {
  rounds = t.rounds;
  classes = map origin_of t.classes.items;
  members = map member_of t.members.items;
}

-- `==` of the program's origins, and of its tables.
abbrev pub origin_eq : Origin → Origin → Bool
origin_eq o u = origins.eq o u

abbrev pub table_eq : Table → Table → Bool
table_eq s t = compared.eq s t
