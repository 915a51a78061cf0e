use Rattle.std.proofs.Common.{◌≡◌, drop, nat_eq}
use Rattle.std.specs.List.{list_all}
use Rattle.std.specs.HashSet.{contains}
use Rattle.value_equality.proofs.image.are_reached.Given as goal

-- what is left decides
abbrev pub invariant-loop-place : goal.invariant-loop-place
invariant-loop-place l = list_all (λ r. contains nat_eq l.reached r.name) (drop l.place l.q) ≡ list_all
    (λ r. contains nat_eq l.reached r.name) l.q
