use Rattle.std.proofs.Common.{◌≡◌, map, take}
use Rattle.express_syntax.specs.Views.{declaration_of}
use Rattle.schema_semantics.specs.Parts.{for_each, parts_of_declaration}
use Rattle.schema_attribute_references.specs.steps.Taking.{schema_in}
use Rattle.schema_unchecked_declarations.specs.UncheckedLists.{Adds, unchecked_in}
use Rattle.schema_unchecked.specs.steps.Places.{derivations_before}
use Rattle.schema_unchecked.proofs.list.add_all.Given as goal

abbrev pub invariant-loop-i : goal.invariant-loop-i
invariant-loop-i l =
    Adds (for_each (parts_of_declaration (schema_in l.findings.known)) (map declaration_of (take l.i l.declarations)))
    (unchecked_in l.initial.list.items) (unchecked_in l.list.items)
    × (l.first ≡ derivations_before (schema_in l.findings.known) l.i)
