use Rattle.std.proofs.Common.{◌≡◌}
use Rattle.population_pins.proofs.Listing.{SoFar}
use Rattle.population_pins.proofs.pinned_names.pin_all.Given as goal

abbrev pub invariant-loop-name : goal.invariant-loop-name
invariant-loop-name l = SoFar (λ y n. n ≡ y) l.names l.name-index l.fn.pinned l.pinned
