use Rattle.std.proofs.Common.{◌≡◌, ℕ, drop, nat_eq}
use Rattle.std.specs.Prelude.{◌||◌}
use Rattle.std.specs.HashSet.{contains}
use Rattle.value_equality.specs.steps.ComputedImages.{is_reached}
use Rattle.value_equality.proofs.image.reached.Given as goal

-- what is left decides
abbrev pub invariant-loop-place : goal.invariant-loop-place
invariant-loop-place l =
    (y : ℕ) → (contains nat_eq l.reached y || is_reached l.map (drop l.place l.p) y) ≡ is_reached l.map l.p y
