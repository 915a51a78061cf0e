use Rattle.std.proofs.Common.{false}
use Rattle.std.proofs.lemmas.Result.{on_ok_weaker}
use Rattle.express_syntax.specs.Trees.{comparison}
use Rattle.express_syntax.specs.ExpressionViews.{tree_of}
use Rattle.schema_attribute_references.specs.steps.Taking.{schema_in}
use Rattle.schema_expression_analysis.specs.steps.Findings.{Finds, at_tree}
use Rattle.schema_expression_analysis.specs.steps.Questions.{own_of_context}
use Rattle.schema_expression_analysis.proofs.Around.{around}
use Rattle.schema_expression_analysis.proofs.Joined.{walks-here}
use Rattle.schema_expression_analysis.proofs.notes.note_comparison_inside.Goals as goal

pub returns : goal.returns
returns c =
    let s = schema_in c.args.context.now.known in
    let self = own_of_context c.args.context.now in
    let e = comparison (tree_of c.args.left.now) c.args.relation (tree_of c.args.right.now) in
    on_ok_weaker c.note_comparison.result (λ h.
    walks-here s c.args.variables.now c.args.survey.now c.note_comparison.new.survey
    (λ vs f. at_tree s self f false vs e)
    (around c.with.result c.args.context.now c.args.variables.now c.with.ensures.schema c.with.ensures.own
    c.with.ensures.variables (λ s self vs. Finds s c.args.survey.now (λ f. at_tree s self f false vs e)
    c.note_comparison.new.survey) h)) c.note_comparison.ensures
