use Rattle.std.proofs.Common.{◌≡◌, drop}
use Rattle.std.specs.List.{list_all}
use Rattle.value_equality.specs.steps.ComputedImages.{is_source_by}
use Rattle.value_equality.proofs.image.are_sources.Given as goal

-- what is left decides
abbrev pub invariant-loop-place : goal.invariant-loop-place
invariant-loop-place l = list_all (is_source_by l.sources l.map) (drop l.place l.p) ≡ list_all
    (is_source_by l.sources l.map) l.p
