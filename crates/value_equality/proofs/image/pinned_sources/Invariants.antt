use Rattle.std.proofs.Common.{◌≡◌, ℕ, drop, nat_eq, None}
use Rattle.std.specs.HashMap.{get}
use Rattle.step_values.specs.Maps.{led_by}
use Rattle.value_equality.specs.steps.ComputedImages.{source}
use Rattle.value_equality.specs.Maps.{is_pinned}
use Rattle.value_equality.proofs.image.pinned_sources.Given as goal

-- what is left decides
abbrev pub invariant-loop-place : goal.invariant-loop-place
invariant-loop-place l =
    (y : ℕ) → source (led_by l.map) (is_pinned l.pinned) (drop l.place l.p) (get nat_eq l.sources y) y
    ≡ source (led_by l.map) (is_pinned l.pinned) l.p None y
