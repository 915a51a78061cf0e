use Rattle.population_pins.proofs.Added.{AreAdded}
use Rattle.population_pins.proofs.lists.push_elements.Given as goal

abbrev pub invariant-loop-i : goal.invariant-loop-i
invariant-loop-i l = AreAdded l.values l.i l.fn.names.items l.names.items
