use Rattle.conformance.specs.Pins.{OccursAt}
use Rattle.step_values.specs.steps.Slots.{nth}
use Rattle.population_pins.proofs.Listing.{SoFar}
use Rattle.population_pins.proofs.rows.pin_keys.Given as goal

abbrev pub invariant-loop-position : goal.invariant-loop-position
invariant-loop-position l = SoFar (λ y p. OccursAt y (nth l.values p)) l.keys l.position-index l.fn.pinned l.pinned
