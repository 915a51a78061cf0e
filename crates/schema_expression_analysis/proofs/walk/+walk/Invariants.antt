use Rattle.std.proofs.Common.{take}
use Rattle.express_syntax.specs.ExpressionViews.{trees_of, alternatives_of, qualifiers_of}
use Rattle.schema_attribute_references.specs.steps.Taking.{schema_in}
use Rattle.schema_expression_analysis.specs.steps.Findings.{WithinAll, WithinOthers, WithinIndices, Walks}
use Rattle.schema_expression_analysis.specs.steps.Questions.{own_of_context}
use Rattle.schema_expression_analysis.proofs.walk.+walk.Given as goal

abbrev pub invariant-survey_all-loop-expression : goal.invariant-survey_all-loop-expression
invariant-survey_all-loop-expression l =
    Walks (schema_in l.context.known) l.initial.variables.items l.initial.survey
    (λ vs f. WithinAll (schema_in l.context.known) (own_of_context l.context) f vs
    (trees_of (take l.expression-index l.expressions))) l.variables.items l.survey

abbrev pub invariant-survey_alternatives-loop-alternative : goal.invariant-survey_alternatives-loop-alternative
invariant-survey_alternatives-loop-alternative l =
    Walks (schema_in l.context.known) l.initial.variables.items l.initial.survey
    (λ vs f. WithinOthers (schema_in l.context.known) (own_of_context l.context) f vs
    (alternatives_of (take l.alternative-index l.alternatives))) l.variables.items l.survey

abbrev pub invariant-survey_indices-loop-qualifier : goal.invariant-survey_indices-loop-qualifier
invariant-survey_indices-loop-qualifier l =
    Walks (schema_in l.context.known) l.initial.variables.items l.initial.survey
    (λ vs f. WithinIndices (schema_in l.context.known) (own_of_context l.context) f vs
    (qualifiers_of (take l.qualifier-index l.qualifiers))) l.variables.items l.survey
