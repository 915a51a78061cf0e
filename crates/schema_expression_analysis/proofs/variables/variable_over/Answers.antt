use Rattle.std.proofs.Common.{◌↔◌, [], ap, sym, subst}
use Rattle.std.proofs.lemmas.Result.{IfOk-weaker}
use Rattle.express_syntax.specs.ExpressionViews.{tree_of}
use Rattle.schema_semantics.specs.Sets.{May}
use Rattle.schema_data_types.specs.steps.Values.{Holds}
use Rattle.schema_attribute_references.specs.steps.Taking.{IsSet, schema_in}
use Rattle.schema_expression_types.specs.steps.Scopes.{inside}
use Rattle.schema_expression_analysis.specs.steps.Questions.{own_of_context}
use Rattle.schema_expression_analysis.proofs.Agreeing.{chain, elements-same}
use Rattle.schema_expression_analysis.proofs.Around.{around}
use Rattle.schema_expression_analysis.proofs.variables.variable_over.Goals as goal

pub returns : goal.returns
returns c =
    let x = c.args.context.now in
    let s = schema_in x.known in
    let vs = inside s c.args.variables.now [] in
    let source = tree_of c.args.source.now in
    let is =
    around c.with.result x c.args.variables.now c.with.ensures.schema c.with.ensures.own c.with.ensures.variables
    (λ s self vs. IsSet s (May s self vs source) c.in_ok-may.may.items) c.in_ok-may.ensures in
    let here = subst (IsSet s (May s (own_of_context x) vs source)) (sym c.deref.ensures.value) is in
    IfOk-weaker c.elements.result _ _
    (λ t h a. chain (h a) (elements-same s (Holds s c.deref.result.now) (May s (own_of_context x) vs source) here a))
    c.elements.ensures
