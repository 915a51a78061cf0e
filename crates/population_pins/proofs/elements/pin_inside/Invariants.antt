use Rattle.conformance.specs.Elements.{AnElement, StandsWithin}
use Rattle.step_values.proofs.Walks.{after}
use Rattle.population_pins.specs.steps.Pinning.{PinsUpTo}
use Rattle.population_pins.proofs.elements.pin_inside.Given as goal

abbrev pub invariant-loop-i : goal.invariant-loop-i
invariant-loop-i l =
    PinsUpTo (λ y. AnElement (StandsWithin y) l.values) (λ y. AnElement (StandsWithin y) (after l.i l.values))
    l.fn.pinned l.pinned
