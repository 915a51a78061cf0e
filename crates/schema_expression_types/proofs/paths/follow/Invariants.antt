use Rattle.std.proofs.Common.{drop}
use Rattle.express_syntax.specs.ExpressionViews.{qualifiers_of}
use Rattle.schema_attribute_references.specs.steps.Taking.{schema_in}
use Rattle.schema_expression_types.specs.declared.references.Reference.{Reference}
use Rattle.schema_expression_types.specs.steps.Paths.{GoesOn}
use Rattle.schema_expression_types.proofs.paths.follow.Given as goal

abbrev pub invariant-loop-qualifier : goal.invariant-loop-qualifier
invariant-loop-qualifier l =
    (t : Reference) → GoesOn (schema_in l.known) l.reference (qualifiers_of (drop l.qualifier-index l.qualifiers)) t
    → GoesOn (schema_in l.known) l.initial.reference (qualifiers_of l.qualifiers) t
