use Rattle.std.proofs.Common.{◌≡◌, ◌++◌, [], drop}
use Rattle.typed_populations.specs.ValueOrder.{rows_picked}
use Rattle.typed_populations.proofs.plain_rows.ordered_values.Given as goal

abbrev pub invariant-loop-i : goal.invariant-loop-i
invariant-loop-i l = record {
  names : l.builder.names ≡ l.names;
  pending : l.builder.pending ≡ [];
  rows : l.builder.rows
      ++ rows_picked l.orders (drop l.i l.rows.form_of.items) (drop l.i l.values.rows)
      ≡ rows_picked l.orders l.rows.form_of.items l.values.rows;
}
