use Rattle.std.proofs.Common.{◌≡◌, ◌++◌, ℕ, List, length, take, drop}
use Rattle.step_values.specs.steps.Targets.{LeadTo}
use Rattle.typed_populations.specs.ValueOrder.{rows_picked}
use Rattle.typed_populations.proofs.plain_rows.reorder_rows.Given as goal

abbrev pub invariant-loop-i : goal.invariant-loop-i
invariant-loop-i l = record {
  long : length l.values.rows ≡ length l.fn.values.rows;
  left : drop l.i l.values.rows ≡ drop l.i l.fn.values.rows;
  rows : take l.i l.values.rows
      ++ rows_picked l.orders (drop l.i l.rows.form_of.items) (drop l.i l.fn.values.rows)
      ≡ rows_picked l.orders l.rows.form_of.items l.fn.values.rows;
  targets : (names : List ℕ) → LeadTo names l.fn.values.targets → LeadTo names l.values.targets;
}
