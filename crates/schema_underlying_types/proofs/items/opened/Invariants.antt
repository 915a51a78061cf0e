use Rattle.std.proofs.Common.{◌≡◌, ℕ, ◌<◌, length, map}
use Rattle.graphs.specs.Graphs.{next}
use Rattle.schema_underlying_types.specs.BaseEntries.{opened}
use Rattle.schema_underlying_types.proofs.items.opened.Given as goal

abbrev pub invariant-loop-i : goal.invariant-loop-i
invariant-loop-i l = record {
  long : length l.rows.items ≡ l.i;
  rows : (a : ℕ) → a < l.i
      → next (map (λ v. v.items) l.rows.items) a ≡ opened l.declared a (next (map (λ v. v.items) l.edges) a);
}
