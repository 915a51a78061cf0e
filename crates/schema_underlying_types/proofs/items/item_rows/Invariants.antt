use Rattle.std.proofs.Common.{◌≡◌, ℕ, ◌<◌, length, map}
use Rattle.std.specs.List.Sorted.{IsNonDecreasing}
use Rattle.graphs.specs.Graphs.{has, next}
use Rattle.schema_underlying_types.specs.BaseEntries.{opened}
use Rattle.schema_underlying_types.proofs.items.item_rows.Given as goal

abbrev pub invariant-loop-i : goal.invariant-loop-i
invariant-loop-i l = record {
  long : length l.rows.items ≡ l.i;
  items : (a : ℕ) → a < l.i → (j : ℕ)
      → has (next (map (λ v. v.items) l.rows.items) a) j
      ≡ has (opened l.declared a (next (map (λ v. v.items) l.found.items) a)) j;
  sorted : (a : ℕ) → a < l.i → IsNonDecreasing (next (map (λ v. v.items) l.rows.items) a);
}
