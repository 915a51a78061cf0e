use Rattle.std.proofs.Common.{◌≡◌, ◌<◌, ℕ, Option, Some, slice_get}
use Rattle.step_values.specs.Values.{Values}
use Rattle.typed_populations.specs.ValueOrder.{CanMove, order_among}
use Rattle.typed_populations.proofs.plain_rows.all_can_move.Given as goal

abbrev pub invariant-loop-i : goal.invariant-loop-i
invariant-loop-i l =
    (k : ℕ) (n : Option ℕ) (vs : Values) → k < l.i → slice_get l.rows.form_of.items k ≡ Some n
    → slice_get l.values.rows k ≡ Some vs → CanMove (order_among l.orders n) vs
