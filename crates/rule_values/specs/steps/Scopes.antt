-- The variables of the queries around an expression, the innermost last.
use Rattle.std.specs.Prelude.{List, [], ◌∷◌}
use Rattle.express_syntax.specs.ExpressionViews.{capitals}
use Rattle.conformance.specs.Expressions as expressions
use Rattle.rule_values.specs.Parts.{element_datum}
use Rattle.rule_values.specs.declared.variables.Variable.{Variable}

abbrev pub variable_of : Variable → expressions.Variable
variable_of v = record { name = capitals v.name; value = element_datum v.value }

abbrev pub variables_from : List expressions.Variable → List Variable → List expressions.Variable
variables_from outer [] = outer
variables_from outer (v ∷ vs) = variables_from (variable_of v ∷ outer) vs

abbrev pub variables_of : List Variable → List expressions.Variable
variables_of vs = variables_from [] vs
