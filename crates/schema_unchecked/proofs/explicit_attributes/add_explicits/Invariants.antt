use Rattle.std.proofs.Common.{map, take}
use Rattle.express_syntax.specs.ExpressionViews.{capitals}
use Rattle.express_syntax.specs.Views.{explicit_of}
use Rattle.schema_semantics.specs.Parts.{for_each, parts_of_explicit}
use Rattle.schema_attribute_references.specs.steps.Taking.{schema_in}
use Rattle.schema_unchecked_declarations.specs.UncheckedLists.{Adds, unchecked_in}
use Rattle.schema_unchecked.proofs.explicit_attributes.add_explicits.Given as goal

abbrev pub invariant-loop-i : goal.invariant-loop-i
invariant-loop-i l =
    Adds (for_each (parts_of_explicit (schema_in l.findings.known) (capitals l.holder))
    (map explicit_of (take l.i l.explicits)))
    (unchecked_in l.initial.list.items) (unchecked_in l.list.items)
