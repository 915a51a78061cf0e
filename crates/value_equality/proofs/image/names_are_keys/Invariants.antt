use Rattle.std.proofs.Common.{◌≡◌, drop}
use Rattle.std.specs.List.{list_all}
use Rattle.value_equality.specs.Maps.{is_key}
use Rattle.value_equality.proofs.image.names_are_keys.Given as goal

-- what is left decides
abbrev pub invariant-loop-place : goal.invariant-loop-place
invariant-loop-place l = list_all (λ r. is_key l.map r.name) (drop l.place l.p) ≡ list_all (λ r. is_key l.map r.name) l.p
