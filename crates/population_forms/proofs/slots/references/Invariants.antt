use Rattle.std.proofs.Common.{◌≡◌, take}
use Rattle.population_forms.specs.steps.ComputedReferences.{references_from}
use Rattle.population_forms.proofs.slots.references.Given as goal

abbrev pub invariant-loop-i : goal.invariant-loop-i
invariant-loop-i l = l.references.items ≡ references_from 0 (take l.i l.uses)
