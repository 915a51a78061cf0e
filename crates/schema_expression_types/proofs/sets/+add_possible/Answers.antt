use Rattle.std.proofs.Common.{OnOk, subst}
use Rattle.express_syntax.specs.declared.expression.Expr.TheVariants as exprs
use Rattle.express_syntax.specs.Trees as trees
use Rattle.express_syntax.specs.ExpressionViews.{root_of, qualifiers_of, tree_of, trees_of, alternatives_of, literal_of, number_of, capitals}
use Rattle.schema_semantics.specs.Sets.{Aggregates, May, OfReference}
use Rattle.schema_data_types.specs.steps.Values.{AddsAll, Holds}
use Rattle.schema_attribute_references.specs.steps.Taking.{schema_in}
use Rattle.schema_expression_types.specs.steps.Scopes.{own_in, variables_in}
use Rattle.express_syntax.proofs.Layers.{literal-seen, signed-seen, reference-seen, parenthesized-seen, query-seen, call-seen, nvl-seen, interval-seen, not-seen, conjunction-seen, disjunction-seen, comparison-seen, aggregate-seen}
use Rattle.schema_expression_types.proofs.Adding.{adds-tree, query-added, both-added}
use Rattle.schema_expression_types.proofs.sets.+add_possible.Goals as goal

pub returns-in-Literal : goal.returns-in-Literal
returns-in-Literal t c =
    let s = schema_in c.args.scope.now.known in
    let self = own_in c.args.scope.now in
    let vs = variables_in c.args.scope.now in
    let old = c.args.atoms.now.items in
    let new = c.add_literal.new.atoms.items in
    adds-tree s self vs c.add_literal.result c.args.expression.now (exprs.Literal c.in-Literal.literal) c.in-Literal.is (trees.literal (literal_of c.in-Literal.literal))
    (literal-seen c.in-Literal.literal) old new (c.add_literal.ensures s)

pub returns-in-Signed : goal.returns-in-Signed
returns-in-Signed t c =
    let s = schema_in c.args.scope.now.known in
    let self = own_in c.args.scope.now in
    let vs = variables_in c.args.scope.now in
    let old = c.args.atoms.now.items in
    let new = c.add_sort.new.atoms.items in
    adds-tree s self vs c.add_sort.result c.args.expression.now (exprs.Signed c.in-Signed.field-0 c.in-Signed.field-1) c.in-Signed.is (trees.signed c.in-Signed.field-0 (number_of c.in-Signed.field-1))
    (signed-seen c.in-Signed.field-0 c.in-Signed.field-1) old new (c.add_sort.ensures s)

pub returns-in-Reference : goal.returns-in-Reference
returns-in-Reference t c =
    let s = schema_in c.args.scope.now.known in
    let self = own_in c.args.scope.now in
    let vs = variables_in c.args.scope.now in
    let old = c.args.atoms.now.items in
    let new = c.add_reference.new.atoms.items in
    adds-tree s self vs c.add_reference.result c.args.expression.now (exprs.Reference c.in-Reference.root c.in-Reference.qualifiers) c.in-Reference.is (trees.reference (root_of c.in-Reference.root) (qualifiers_of c.in-Reference.qualifiers.items))
    (reference-seen c.in-Reference.root c.in-Reference.qualifiers) old new (subst (λ qs. OnOk c.add_reference.result (AddsAll s old (OfReference s self vs (root_of c.in-Reference.root)
    (qualifiers_of qs)) new)) c.deref.ensures.value c.add_reference.ensures)

pub returns-in-Parenthesized : goal.returns-in-Parenthesized
returns-in-Parenthesized t c =
    let s = schema_in c.args.scope.now.known in
    let self = own_in c.args.scope.now in
    let vs = variables_in c.args.scope.now in
    let old = c.args.atoms.now.items in
    let new = c.add_possible.new.atoms.items in
    adds-tree s self vs c.add_possible.result c.args.expression.now (exprs.Parenthesized c.in-Parenthesized.inner) c.in-Parenthesized.is (trees.parenthesized (tree_of c.in-Parenthesized.inner.value))
    (parenthesized-seen c.in-Parenthesized.inner) old new (subst (λ x. OnOk c.add_possible.result (AddsAll s old (May s self vs (tree_of x)) new))
    c.deref-in-Parenthesized.ensures c.add_possible.ensures)

pub returns-in_ok-add_possible-in-Query : goal.returns-in_ok-add_possible-in-Query
returns-in_ok-add_possible-in-Query t c =
    let s = schema_in c.args.scope.now.known in
    let self = own_in c.args.scope.now in
    let vs = variables_in c.args.scope.now in
    let old = c.args.atoms.now.items in
    let new = c.add_aggregates.new.atoms.items in
    adds-tree s self vs c.add_aggregates.result c.args.expression.now (exprs.Query c.in-Query.variable c.in-Query.source c.in-Query.condition) c.in-Query.is (trees.query (capitals c.in-Query.variable) (tree_of c.in-Query.source.value) (tree_of c.in-Query.condition.value))
    (query-seen c.in-Query.variable c.in-Query.source c.in-Query.condition) old new (subst (λ x. OnOk c.add_aggregates.result (AddsAll s old (Aggregates (May s self vs (tree_of x))) new))
    c.deref-in-Query.ensures (query-added s self vs c.add_aggregates.result (tree_of c.deref-in-Query.result.now)
    c.add_possible-in-Query.new.atoms.items c.new-sources.result.items old new c.new-sources.ensures.items
    c.in_ok-add_possible-in-Query.ensures (subst (λ xs. OnOk c.add_aggregates.result (AddsAll s old (Aggregates
    (Holds s xs)) new)) c.deref-in-Query-2.ensures.value (c.add_aggregates.ensures s))))

pub returns-in-Call : goal.returns-in-Call
returns-in-Call t c =
    let s = schema_in c.args.scope.now.known in
    let self = own_in c.args.scope.now in
    let vs = variables_in c.args.scope.now in
    let old = c.args.atoms.now.items in
    let new = c.add_call.new.atoms.items in
    adds-tree s self vs c.add_call.result c.args.expression.now (exprs.Call c.in-Call.function c.in-Call.field-1) c.in-Call.is (trees.call c.in-Call.function (tree_of c.in-Call.field-1.value))
    (call-seen c.in-Call.function c.in-Call.field-1) old new (c.add_call.ensures s)

pub returns-in_ok-add_possible-in-Nvl : goal.returns-in_ok-add_possible-in-Nvl
returns-in_ok-add_possible-in-Nvl t c =
    let s = schema_in c.args.scope.now.known in
    let self = own_in c.args.scope.now in
    let vs = variables_in c.args.scope.now in
    let old = c.args.atoms.now.items in
    let new = c.add_possible-in-Nvl-2.new.atoms.items in
    adds-tree s self vs c.add_possible-in-Nvl-2.result c.args.expression.now (exprs.Nvl c.in-Nvl.value c.in-Nvl.substitute) c.in-Nvl.is (trees.nvl (tree_of c.in-Nvl.value.value) (tree_of c.in-Nvl.substitute.value))
    (nvl-seen c.in-Nvl.value c.in-Nvl.substitute) old new (both-added s self vs c.add_possible-in-Nvl-2.result (tree_of c.in-Nvl.value.value) (tree_of c.in-Nvl.substitute.value) old
    c.add_possible-in-Nvl.new.atoms.items new
    (subst (λ x. AddsAll s old (May s self vs (tree_of x)) c.add_possible-in-Nvl.new.atoms.items) c.deref-in-Nvl.ensures
    c.in_ok-add_possible-in-Nvl.ensures)
    (subst (λ x. OnOk c.add_possible-in-Nvl-2.result (AddsAll s c.add_possible-in-Nvl.new.atoms.items (May s self vs
    (tree_of x)) new)) c.deref-in-Nvl-2.ensures c.add_possible-in-Nvl-2.ensures))

pub returns-in-Interval : goal.returns-in-Interval
returns-in-Interval t c =
    let s = schema_in c.args.scope.now.known in
    let self = own_in c.args.scope.now in
    let vs = variables_in c.args.scope.now in
    let old = c.args.atoms.now.items in
    let new = c.add_sort-in-Interval.new.atoms.items in
    adds-tree s self vs c.add_sort-in-Interval.result c.args.expression.now (exprs.Interval c.in-Interval.low c.in-Interval.above c.in-Interval.item c.in-Interval.below c.in-Interval.high) c.in-Interval.is (trees.interval (tree_of c.in-Interval.low.value) c.in-Interval.above (tree_of c.in-Interval.item.value) c.in-Interval.below (tree_of c.in-Interval.high.value))
    (interval-seen c.in-Interval.low c.in-Interval.above c.in-Interval.item c.in-Interval.below c.in-Interval.high) old new (c.add_sort-in-Interval.ensures s)

pub returns-in-Not : goal.returns-in-Not
returns-in-Not t c =
    let s = schema_in c.args.scope.now.known in
    let self = own_in c.args.scope.now in
    let vs = variables_in c.args.scope.now in
    let old = c.args.atoms.now.items in
    let new = c.add_sort-in-Not.new.atoms.items in
    adds-tree s self vs c.add_sort-in-Not.result c.args.expression.now (exprs.Not c.in-Not.field-0) c.in-Not.is (trees.negation (tree_of c.in-Not.field-0.value))
    (not-seen c.in-Not.field-0) old new (c.add_sort-in-Not.ensures s)

pub returns-in-Conjunction : goal.returns-in-Conjunction
returns-in-Conjunction t c =
    let s = schema_in c.args.scope.now.known in
    let self = own_in c.args.scope.now in
    let vs = variables_in c.args.scope.now in
    let old = c.args.atoms.now.items in
    let new = c.add_sort-in-Conjunction.new.atoms.items in
    adds-tree s self vs c.add_sort-in-Conjunction.result c.args.expression.now (exprs.Conjunction c.in-Conjunction.field-0 c.in-Conjunction.field-1) c.in-Conjunction.is (trees.conjunction (tree_of c.in-Conjunction.field-0.value) (trees_of c.in-Conjunction.field-1.items))
    (conjunction-seen c.in-Conjunction.field-0 c.in-Conjunction.field-1) old new (c.add_sort-in-Conjunction.ensures s)

pub returns-in-Disjunction : goal.returns-in-Disjunction
returns-in-Disjunction t c =
    let s = schema_in c.args.scope.now.known in
    let self = own_in c.args.scope.now in
    let vs = variables_in c.args.scope.now in
    let old = c.args.atoms.now.items in
    let new = c.add_sort-in-Disjunction.new.atoms.items in
    adds-tree s self vs c.add_sort-in-Disjunction.result c.args.expression.now (exprs.Disjunction c.in-Disjunction.field-0 c.in-Disjunction.field-1) c.in-Disjunction.is (trees.disjunction (tree_of c.in-Disjunction.field-0.value) (alternatives_of c.in-Disjunction.field-1.items))
    (disjunction-seen c.in-Disjunction.field-0 c.in-Disjunction.field-1) old new (c.add_sort-in-Disjunction.ensures s)

pub returns-in-Comparison : goal.returns-in-Comparison
returns-in-Comparison t c =
    let s = schema_in c.args.scope.now.known in
    let self = own_in c.args.scope.now in
    let vs = variables_in c.args.scope.now in
    let old = c.args.atoms.now.items in
    let new = c.add_sort-in-Comparison.new.atoms.items in
    adds-tree s self vs c.add_sort-in-Comparison.result c.args.expression.now (exprs.Comparison c.in-Comparison.field-0 c.in-Comparison.field-1 c.in-Comparison.field-2) c.in-Comparison.is (trees.comparison (tree_of c.in-Comparison.field-0.value) c.in-Comparison.field-1 (tree_of c.in-Comparison.field-2.value))
    (comparison-seen c.in-Comparison.field-0 c.in-Comparison.field-1 c.in-Comparison.field-2) old new (c.add_sort-in-Comparison.ensures s)
