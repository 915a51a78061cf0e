use Rattle.std.proofs.Common.{◌≡◌, ◌<◌, ℕ, Some, slice_get}
use Rattle.value_equality.specs.Maps.{is_pinned}
use Rattle.value_equality.specs.Rows.{Row}
use Rattle.certificate_checks.specs.steps.ComputedStability.{AgreesWithFirst, labels_by}
use Rattle.certificate_checks.specs.steps.Places.{by_place}
use Rattle.certificate_checks.proofs.stable_rounds.rows_agree.Given as goal

abbrev pub invariant-loop-place : goal.invariant-loop-place
invariant-loop-place l =
    (i : ℕ) (r : Row) → i < l.place → slice_get l.classes.input.now i ≡ Some r
    → AgreesWithFirst l.classes.input.now (is_pinned l.classes.pinned.now)
    (labels_by (is_pinned l.classes.pinned.now) l.classes.input.now l.classes.classes.items)
    (by_place l.classes.input.now l.firsts.firsts.items) r
