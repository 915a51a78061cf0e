use Rattle.population_pins.specs.steps.Classes.{class_of, members_of, HasClassmate}
use Rattle.population_pins.proofs.Listing.{SoFar}
use Rattle.population_pins.proofs.weak_pins.pin_in_lists.Given as goal

abbrev pub invariant-loop-index : goal.invariant-loop-index
invariant-loop-index l =
    SoFar (λ y ns. HasClassmate (members_of (class_of l.classes) ns) y) l.lists l.index l.fn.pinned l.pinned
