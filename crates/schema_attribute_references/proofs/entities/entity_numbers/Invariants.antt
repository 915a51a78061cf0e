use Rattle.std.proofs.Common.{◌≡◌, take}
use Rattle.schema_attribute_references.specs.steps.Entities.{entity_numbers}
use Rattle.schema_attribute_references.proofs.entities.entity_numbers.Given as goal

abbrev pub invariant-loop-atom : goal.invariant-loop-atom
invariant-loop-atom l = l.numbers.items ≡ entity_numbers (take l.atom-index l.atoms)
