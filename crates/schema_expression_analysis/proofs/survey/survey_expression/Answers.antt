use Rattle.express_syntax.specs.ExpressionViews.{tree_of}
use Rattle.schema_data_types.specs.steps.Values.{Holds}
use Rattle.schema_attribute_references.specs.steps.Taking.{schema_in}
use Rattle.schema_expression_analysis.proofs.Whole.{whole}
use Rattle.schema_expression_analysis.proofs.survey.survey_expression.Goals as goal

pub returns : goal.returns
returns c =
    let s = schema_in c.args.known.now in
    whole s (Holds s c.args.own.now) (tree_of c.args.expression.now) c.nothing-survey.result
    c.survey_part.new.survey c.new-variables.result.items c.survey_part.new.variables.items
    c.new-variables.ensures.items c.nothing-survey.ensures c.in_ok-survey_part.ensures
