use Rattle.std.proofs.Common.{◌≡◌, drop}
use Rattle.std.specs.List.{list_all}
use Rattle.value_equality.specs.steps.ComputedImages.{lands_by}
use Rattle.value_equality.proofs.image.rows_land.Given as goal

-- what is left decides
abbrev pub invariant-loop-place : goal.invariant-loop-place
invariant-loop-place l = list_all (lands_by l.map l.q) (drop l.place l.p) ≡ list_all (lands_by l.map l.q) l.p
