use Rattle.std.proofs.Common.{◌≡◌, drop}
use Rattle.std.specs.List.{list_all}
use Rattle.certificate_checks.specs.steps.ComputedFirsts.{first_lands}
use Rattle.certificate_checks.specs.steps.Places.{by_place}
use Rattle.certificate_checks.proofs.quotient.firsts_land.Given as goal

-- what is left decides
abbrev pub invariant-loop-place : goal.invariant-loop-place
invariant-loop-place l =
    list_all (first_lands (by_place l.firsts.input.now l.firsts.firsts.items) l.output) (drop l.place l.firsts.input.now)
    ≡ list_all (first_lands (by_place l.firsts.input.now l.firsts.firsts.items) l.output) l.firsts.input.now
