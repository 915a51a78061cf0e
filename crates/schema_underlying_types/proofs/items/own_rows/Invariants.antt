use Rattle.std.proofs.Common.{◌≡◌, ℕ, ◌<◌, length, map}
use Rattle.graphs.specs.Graphs.{next}
use Rattle.schema_underlying_types.specs.BaseEntries.{item_of}
use Rattle.schema_underlying_types.proofs.items.own_rows.Given as goal

abbrev pub invariant-loop-i : goal.invariant-loop-i
invariant-loop-i l = record {
  long : length l.rows.items ≡ l.i;
  rows : (a : ℕ) → a < l.i → next (map (λ v. v.items) l.rows.items) a ≡ item_of l.declared a;
}
