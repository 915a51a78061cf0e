use Rattle.std.proofs.Common.{◌≡◌, take, map}
use Rattle.population_pins.proofs.classes.member_names.Given as goal

abbrev pub invariant-loop-member : goal.invariant-loop-member
invariant-loop-member l = l.names.items ≡ map (λ m. m.0) (take l.member-index l.members)
