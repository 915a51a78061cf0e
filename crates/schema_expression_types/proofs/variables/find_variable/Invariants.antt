use Rattle.std.proofs.Common.{take, []}
use Rattle.express_syntax.specs.ExpressionViews.{capitals}
use Rattle.express_syntax.specs.Schemas.{Schema}
use Rattle.schema_expression_types.specs.steps.Scopes.{inside}
use Rattle.schema_expression_types.proofs.Finding.{Outer}
use Rattle.schema_expression_types.proofs.variables.find_variable.Given as goal

abbrev pub invariant-loop-i : goal.invariant-loop-i
invariant-loop-i l =
    (s : Schema) → Outer s (capitals l.name) (inside s (take l.i l.variables) []) (inside s l.variables [])
