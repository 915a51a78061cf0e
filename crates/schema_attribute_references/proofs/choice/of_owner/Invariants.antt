use Rattle.std.proofs.Common.{◌≡◌, take}
use Rattle.schema_attribute_references.specs.steps.Choosing.{of_owner}
use Rattle.schema_attribute_references.proofs.choice.of_owner.Given as goal

abbrev pub invariant-loop-declaration : goal.invariant-loop-declaration
invariant-loop-declaration l = l.chosen.items ≡ of_owner l.owner (take l.declaration-index l.declarations)
