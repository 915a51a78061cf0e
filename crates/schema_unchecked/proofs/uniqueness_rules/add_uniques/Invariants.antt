use Rattle.std.proofs.Common.{map, take}
use Rattle.express_syntax.specs.ExpressionViews.{capitals}
use Rattle.express_syntax.specs.Views.{unique_of}
use Rattle.schema_semantics.specs.Parts.{parts_of_uniques}
use Rattle.schema_attribute_references.specs.steps.Taking.{schema_in}
use Rattle.schema_unchecked_declarations.specs.UncheckedLists.{Adds, unchecked_in}
use Rattle.schema_unchecked.proofs.uniqueness_rules.add_uniques.Given as goal

abbrev pub invariant-loop-i : goal.invariant-loop-i
invariant-loop-i l =
    Adds (parts_of_uniques (schema_in l.findings.known) (capitals l.holder.name) 1
    (map unique_of (take l.i l.uniques)))
    (unchecked_in l.initial.list.items) (unchecked_in l.list.items)
