use Rattle.std.proofs.Common.{◌≡◌, drop}
use Rattle.step_literals.specs.steps.Rests.{items_left}
use Rattle.step_literals.specs.Items.{string_items}
use Rattle.population_findings.specs.steps.SchemaNames.{names_so}
use Rattle.population_findings.proofs.schema_name.spells.Given as goal

abbrev pub invariant-loop-byte : goal.invariant-loop-byte
invariant-loop-byte l =
    names_so (drop l.byte-index l.fn.name) (items_left l.items)
    ≡ names_so l.fn.name (string_items l.fn.text.text.now)
