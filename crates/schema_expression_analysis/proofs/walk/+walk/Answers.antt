use Rattle.std.proofs.Common.{false, ◌⊎◌, ◌<◌, ◌∙◌, ◌++◌, ◌∷◌, [], take, length, ap, refl, sym, subst, arith}
use Rattle.std.proofs.lemmas.List.{take_all}
use Rattle.std.proofs.lemmas.Result.{on_ok_weaker}
use Rattle.express_syntax.specs.Trees.{interval, query, comparison}
use Rattle.express_syntax.specs.ExpressionViews.{capitals, choice_of, tree_of, trees_of, alternatives_of, qualifiers_of}
use Rattle.schema_names.proofs.Rows.{take-more}
use Rattle.schema_attribute_references.specs.steps.Taking.{schema_in}
use Rattle.schema_expression_analysis.specs.steps.Findings.{Within, WithinAll, WithinOthers, WithinIndices, Binds, at_tree, Walks}
use Rattle.schema_expression_analysis.specs.steps.Questions.{is_in, own_of_context}
use Rattle.schema_expression_analysis.proofs.Around.{around}
use Rattle.schema_expression_analysis.proofs.Joined.{walks-none, walks-here, walks-alike, walks-both, walks-query, interval-is, comparison-is}
use Rattle.schema_expression_analysis.proofs.Parts.{interval-walks, query-walks, comparison-walks}
use Rattle.schema_expression_analysis.proofs.Rows.{choice_tree, all-last, others-last, indices-last}
use Rattle.schema_expression_analysis.proofs.walk.+walk.Goals as goal

pub survey_all-loop-expression-init : goal.survey_all-loop-expression-init
survey_all-loop-expression-init t c = walks-none _ _ _ _ (λ vs f h. h)

pub survey_all-loop-expression-preserved : goal.survey_all-loop-expression-preserved
survey_all-loop-expression-preserved t c =
    let s = schema_in c.args.context.now.known in
    let self = own_of_context c.args.context.now in
    let xs = c.args.expressions.now in
    let at = c.loop-expression.expression-index in
    let item = c.expression-item.result in
    let lt : at < length xs = omega (arith, c.loop-expression-test.true) in
    subst (λ ys. Walks s c.args.variables.now.items c.args.survey.now (λ vs f. WithinAll s self f vs (trees_of ys))
    c.survey_part.new.variables.items c.survey_part.new.survey) (sym (take-more xs at item lt c.expression-item.is))
    (walks-alike s (λ vs f. WithinAll s self f vs (trees_of (take at xs)) ⊎ Within s self f false vs (tree_of item))
    (λ vs f. WithinAll s self f vs (trees_of (take at xs ++ item ∷ []))) (λ vs f. all-last s self f vs (take at xs) item)
    (walks-both s c.loop-expression.invariant c.in_ok-survey_part.ensures))

pub survey_all-returns : goal.survey_all-returns
survey_all-returns t c =
    let s = schema_in c.args.context.now.known in
    let self = own_of_context c.args.context.now in
    subst (λ ys. Walks s c.args.variables.now.items c.args.survey.now (λ vs f. WithinAll s self f vs (trees_of ys))
    c.loop-expression.variables.items c.loop-expression.survey)
    (take_all c.loop-expression.expression-index c.args.expressions.now c.loop-expression-test.false) c.loop-expression.invariant

pub survey_indices-loop-qualifier-init : goal.survey_indices-loop-qualifier-init
survey_indices-loop-qualifier-init t c = walks-none _ _ _ _ (λ vs f h. h)

pub survey_indices-loop-qualifier-preserved : goal.survey_indices-loop-qualifier-preserved
survey_indices-loop-qualifier-preserved t c =
    let s = schema_in c.args.context.now.known in
    let self = own_of_context c.args.context.now in
    let xs = c.args.qualifiers.now in
    let at = c.loop-qualifier.qualifier-index in
    let item = c.qualifier-item.result in
    let lt : at < length xs = omega (arith, c.loop-qualifier-test.true) in
    subst (λ ys. Walks s c.args.variables.now.items c.args.survey.now (λ vs f. WithinIndices s self f vs (qualifiers_of ys))
    c.survey_qualifier.new.variables.items c.survey_qualifier.new.survey) (sym (take-more xs at item lt c.qualifier-item.is))
    (walks-alike s (λ vs f. WithinIndices s self f vs (qualifiers_of (take at xs)) ⊎ WithinIndices s self f vs (qualifiers_of (item ∷ [])))
    (λ vs f. WithinIndices s self f vs (qualifiers_of (take at xs ++ item ∷ []))) (λ vs f. indices-last s self f vs (take at xs) item)
    (walks-both s c.loop-qualifier.invariant c.in_ok-survey_qualifier.ensures))

pub survey_indices-returns : goal.survey_indices-returns
survey_indices-returns t c =
    let s = schema_in c.args.context.now.known in
    let self = own_of_context c.args.context.now in
    subst (λ ys. Walks s c.args.variables.now.items c.args.survey.now (λ vs f. WithinIndices s self f vs (qualifiers_of ys))
    c.loop-qualifier.variables.items c.loop-qualifier.survey)
    (take_all c.loop-qualifier.qualifier-index c.args.qualifiers.now c.loop-qualifier-test.false) c.loop-qualifier.invariant

pub survey_alternatives-loop-alternative-init : goal.survey_alternatives-loop-alternative-init
survey_alternatives-loop-alternative-init t c = walks-none _ _ _ _ (λ vs f h. h)

pub survey_alternatives-loop-alternative-preserved : goal.survey_alternatives-loop-alternative-preserved
survey_alternatives-loop-alternative-preserved t c =
    let s = schema_in c.args.context.now.known in
    let self = own_of_context c.args.context.now in
    let xs = c.args.alternatives.now in
    let at = c.loop-alternative.alternative-index in
    let item = c.alternative-item.result in
    let lt : at < length xs = omega (arith, c.loop-alternative-test.true) in
    subst (λ ys. Walks s c.args.variables.now.items c.args.survey.now (λ vs f. WithinOthers s self f vs (alternatives_of ys))
    c.survey_part.new.variables.items c.survey_part.new.survey) (sym (take-more xs at item lt c.alternative-item.is))
    (walks-alike s (λ vs f. WithinOthers s self f vs (alternatives_of (take at xs)) ⊎ Within s self f false vs (tree_of item.term))
    (λ vs f. WithinOthers s self f vs (alternatives_of (take at xs ++ item ∷ []))) (λ vs f. others-last s self f vs (take at xs) item)
    (walks-both s c.loop-alternative.invariant c.in_ok-survey_part.ensures))

pub survey_alternatives-returns : goal.survey_alternatives-returns
survey_alternatives-returns t c =
    let s = schema_in c.args.context.now.known in
    let self = own_of_context c.args.context.now in
    subst (λ ys. Walks s c.args.variables.now.items c.args.survey.now (λ vs f. WithinOthers s self f vs (alternatives_of ys))
    c.loop-alternative.variables.items c.loop-alternative.survey)
    (take_all c.loop-alternative.alternative-index c.args.alternatives.now c.loop-alternative-test.false) c.loop-alternative.invariant

pub survey_part-returns-in_ok-survey_part-in-Interval-2 : goal.survey_part-returns-in_ok-survey_part-in-Interval-2
survey_part-returns-in_ok-survey_part-in-Interval-2 t c =
    let x = c.in-Interval in
    let one = c.survey_part-in-Interval.new in
    let two = c.survey_part-in-Interval-2.new in
    let three = c.survey_part-in-Interval-3.new in
    on_ok_weaker c.survey_part-in-Interval-3.result
    (interval-walks (schema_in c.args.context.now.known) (own_of_context c.args.context.now) c.args.is_right_of_in
    c.args.expression.now x.above x.below x.low x.item x.high x.is c.deref-in-Interval.result.now
    c.args.variables.now.items one.variables.items two.variables.items three.variables.items c.args.survey.now
    c.note_interval_inside.new.survey one.survey two.survey three.survey c.deref-in-Interval.ensures.value
    c.deref-in-Interval-2.result.now c.deref-in-Interval-3.result.now c.deref-in-Interval-4.result.now
    c.deref-in-Interval-2.ensures c.deref-in-Interval-3.ensures c.deref-in-Interval-4.ensures
    c.in_ok-note_interval_inside-in-Interval.ensures c.deref-in-Interval-5.result.now
    c.deref-in-Interval-6.result.now c.deref-in-Interval-7.result.now c.deref-in-Interval-5.ensures
    c.deref-in-Interval-6.ensures c.deref-in-Interval-7.ensures c.in_ok-survey_part-in-Interval.ensures
    c.in_ok-survey_part-in-Interval-2.ensures) c.survey_part-in-Interval-3.ensures

pub survey_part-returns-in_ok-survey_part-in-Query-2 : goal.survey_part-returns-in_ok-survey_part-in-Query-2
survey_part-returns-in_ok-survey_part-in-Query-2 t c =
    let x = c.in-Query in
    let one = c.survey_part-in-Query.new in
    let two = c.survey_part-in-Query-2.new in
    query-walks (schema_in c.args.context.now.known) (own_of_context c.args.context.now) c.args.is_right_of_in
    c.args.expression.now x.variable x.source x.condition x.is c.args.variables.now.items one.variables.items
    c.push_variable.new.variables.items two.variables.items c.pop.new.self.items c.args.survey.now one.survey
    two.survey c.deref-in-Query.result.now c.deref-in-Query-2.result.now c.deref-in-Query-3.result.now
    two.variables.len c.deref-in-Query.ensures c.deref-in-Query-2.ensures c.deref-in-Query-3.ensures
    c.in_ok-survey_part-in-Query.ensures c.in_ok-push_variable-in-Query.ensures
    c.in_ok-survey_part-in-Query-2.ensures c.pop.ensures.rest two.variables.ok.0

pub survey_part-returns-in_ok-survey_part-in-Comparison : goal.survey_part-returns-in_ok-survey_part-in-Comparison
survey_part-returns-in_ok-survey_part-in-Comparison t c =
    let x = c.in-Comparison in
    let one = c.survey_part-in-Comparison.new in
    let two = c.survey_part-in-Comparison-2.new in
    on_ok_weaker c.survey_part-in-Comparison-2.result
    (comparison-walks (schema_in c.args.context.now.known) (own_of_context c.args.context.now) c.args.is_right_of_in
    c.args.expression.now x.left x.relation x.right x.is c.deref-in-Comparison.result.now
    c.args.variables.now.items one.variables.items two.variables.items c.args.survey.now
    c.note_comparison_inside.new.survey one.survey two.survey c.deref-in-Comparison.ensures.value
    c.deref-in-Comparison-2.result.now c.deref-in-Comparison-3.result.now c.deref-in-Comparison-2.ensures
    c.deref-in-Comparison-3.ensures c.in_ok-note_comparison_inside-in-Comparison.ensures
    c.deref-in-Comparison-4.result.now c.deref-in-Comparison-5.result.now c.is_in.result
    c.deref-in-Comparison-4.ensures c.deref-in-Comparison-5.ensures c.is_in.ensures
    c.in_ok-survey_part-in-Comparison.ensures) c.survey_part-in-Comparison-2.ensures
