use Rattle.population_pins.specs.steps.Classes.{class_of}
use Rattle.population_pins.proofs.Classmates.{IsGone}
use Rattle.population_pins.proofs.classes.pin_classmates.Given as goal

abbrev pub invariant-loop-name : goal.invariant-loop-name
invariant-loop-name l = IsGone (class_of l.classes) l.names l.name-index l.firsts l.fn.pinned l.pinned
