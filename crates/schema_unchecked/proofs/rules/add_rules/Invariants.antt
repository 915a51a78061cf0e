use Rattle.std.proofs.Common.{map, take}
use Rattle.express_syntax.specs.ExpressionViews.{capitals}
use Rattle.express_syntax.specs.Views.{rule_of}
use Rattle.schema_semantics.specs.Parts.{parts_of_rules}
use Rattle.schema_attribute_references.specs.steps.Taking.{schema_in}
use Rattle.schema_unchecked_declarations.specs.UncheckedLists.{Adds, unchecked_in}
use Rattle.schema_unchecked.specs.steps.Rules.{has_reason}
use Rattle.schema_unchecked.proofs.rules.add_rules.Given as goal

abbrev pub invariant-loop-i : goal.invariant-loop-i
invariant-loop-i l =
    Adds (parts_of_rules (capitals l.holder) (has_reason (schema_in l.findings.known) l.own) 1
    (map rule_of (take l.i l.rules)))
    (unchecked_in l.initial.list.items) (unchecked_in l.list.items)
