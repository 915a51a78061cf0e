use Rattle.std.proofs.Common.{◌≡◌, ℕ, ◌<◌, length, map}
use Rattle.graphs.specs.Graphs.{next}
use Rattle.schema_names.specs.Schemas.{the_schema}
use Rattle.schema_data_types.specs.steps.Giving.{own_row}
use Rattle.schema_data_types.proofs.value_givers.own_rows.Given as goal

abbrev pub invariant-loop-i : goal.invariant-loop-i
invariant-loop-i l = record {
  long : length l.rows.items ≡ l.i;
  rows : (a : ℕ) → a < l.i → next (map (λ v. v.items) l.rows.items) a ≡ own_row l.wanted (the_schema l.names) a;
}
