use Rattle.std.proofs.Common.{◌≡◌, drop}
use Rattle.std.specs.List.{list_all}
use Rattle.certificate_checks.specs.steps.ComputedFirsts.{is_first}
use Rattle.certificate_checks.specs.steps.Places.{by_place}
use Rattle.certificate_checks.proofs.quotient.are_firsts.Given as goal

-- what is left decides
abbrev pub invariant-loop-place : goal.invariant-loop-place
invariant-loop-place l =
    list_all (λ q. is_first l.firsts.input.now (by_place l.firsts.input.now l.firsts.firsts.items) q.name) (drop l.place l.output)
    ≡ list_all (λ q. is_first l.firsts.input.now (by_place l.firsts.input.now l.firsts.firsts.items) q.name) l.output
