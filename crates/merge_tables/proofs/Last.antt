-- The last of both tables is standard.
use Rattle.std.specs.Prelude.{ℕ, Bool, List, Option, None, Some, MatchOption}
use Rattle.value_equality.specs.Rows.{Row}
use Rattle.value_equality.specs.Standard.{IsStandard}
use Rattle.value_equality.specs.TableViews.{table_of}
use Rattle.value_equality.specs.declared.table.Table as held
use Rattle.merge_tables.specs.steps.Merges.{last_of}

-- the second table is standard, or, if there is none, the first
pub standard-last : (rows : List Row) (pinned : ℕ → Bool) (first : held.Table) (second : Option held.Table) (W : Type 0)
    → MatchOption second W (λ t. IsStandard rows pinned (table_of t)) → (W → IsStandard rows pinned (table_of first))
    → IsStandard rows pinned (table_of (last_of first second))
standard-last rows pinned first None W none by = by none
standard-last rows pinned first (Some second) W is by = is
