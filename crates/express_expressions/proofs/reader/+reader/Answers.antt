use Rattle.std.proofs.Common.{◌≡◌, ap, ◌∙◌, ◌∷◌, refl}
use Rattle.std.proofs.lemmas.Result.{err_from_is_err_and}
use Rattle.express_lexer.specs.declared.marks.Mark.TheVariants as marks
use Rattle.express_syntax.specs.declared.keyword.Keyword.TheVariants as keywords
use Rattle.express_syntax.specs.Words.{keyword, mark}
use Rattle.express_syntax.specs.Trees.{none, one, finish, another, plain, word_of_function, word_of_literal, word_of_root}
use Rattle.express_syntax.specs.Grammar.{unary, term, simple, expression}
use Rattle.express_syntax.specs.steps.Reads.{Stands}
use Rattle.express_expressions.specs.steps.Pieces.{words_from, level_of, boxed_tree, Heads}
use Rattle.express_syntax.specs.ExpressionViews.{capitals, literal_of, root_of, tree_of, trees_of, alternatives_of, selection_of, qualifiers_of}
use Rattle.express_expressions.proofs.ViewLemmas.{joined, joined_alternatives, joined_qualifiers, selected, chosen, trees_push, alternatives_push, qualifiers_push}
use Rattle.express_expressions.proofs.Levels.{expression_none, expression_alone, expression_half, expression_twice, expression_done, simple_none, simple_half, simple_done, term_none, term_half, term_done, unary_none, unary_done, negation_done}
use Rattle.express_expressions.proofs.Chains.{others_next, others_none, others_done, more_next, more_none, more_done, selects_next, selects_none, selects_done, qualifies_shorter, no_attribute, elements_first, elements_next, elements_none, elements_stuck, elements_done}
use Rattle.express_expressions.proofs.Primaries.{primary_none, negation_none, before_lacks, bound_lacks, literal_heads, parenthesized_none, parenthesized_heads, aggregate_none, aggregate_heads, reference_none, reference_heads, call_lacks, call_none, call_heads, nvl_lacks, nvl_none, nvl_half, nvl_heads, query_lacks, query_none, query_half, query_heads, interval_none, interval_second, interval_half, interval_heads}
use Rattle.express_expressions.proofs.Readings.{failed, reading_map, built}
use Rattle.express_expressions.proofs.reader.+reader.Goals as goal

pub alternatives-returns-in_default : goal.alternatives-returns-in_default
alternatives-returns-in_default t c =
    more_done c.args.depth (words_from c.args.at c.args.lexemes.now) (alternatives_of c.loop-junction.others.items)
    (words_from c.loop-junction.left c.args.lexemes.now) c.loop-junction.invariant c.in_default.ensures

pub alternatives-returns-in_err-term : goal.alternatives-returns-in_err-term
alternatives-returns-in_err-term t c =
    let p = err_from_is_err_and c.from_residual.result c.from_residual.ensures.1 in
    rw (p.1, p.2) (failed _ (more_none c.args.depth (words_from c.args.at c.args.lexemes.now)
    (alternatives_of c.loop-junction.others.items) (words_from c.loop-junction.left c.args.lexemes.now)
    c.in-Some.junction (words_from c.in-Some.more c.args.lexemes.now) c.loop-junction.invariant c.in-Some.ensures)
    c.in_err-term.ensures)

pub alternatives-loop-junction-preserved : goal.alternatives-loop-junction-preserved
alternatives-loop-junction-preserved t c =
    let e : alternatives_of c.push.new.self.items ≡ joined_alternatives (alternatives_of c.loop-junction.others.items)
    (another c.in-Some.junction (tree_of c.in_ok-term.term.value) finish) =
    ap alternatives_of c.in_ok-push.ensures.items ∙ alternatives_push c.loop-junction.others.items
    c.alternative.result ∙ ap (λ k. joined_alternatives (alternatives_of c.loop-junction.others.items)
    (chosen k finish)) c.alternative.ensures
    ∙ ap (λ k. joined_alternatives (alternatives_of c.loop-junction.others.items)
    (another c.in-Some.junction (tree_of k) finish)) c.into_inner.ensures in
    rw e (more_next c.args.depth (words_from c.args.at c.args.lexemes.now)
    (alternatives_of c.loop-junction.others.items) (words_from c.loop-junction.left c.args.lexemes.now)
    c.in-Some.junction (words_from c.in-Some.more c.args.lexemes.now) (tree_of c.in_ok-term.term.value)
    (words_from c.in_ok-term.rest c.args.lexemes.now) c.loop-junction.invariant c.in-Some.ensures
    c.in_ok-term.ensures)

pub before-returns-in_default : goal.before-returns-in_default
before-returns-in_default t c =
    before_lacks c.args.depth (level_of c.args.inner) (mark c.args.end) (words_from c.args.at c.args.lexemes.now)
    (tree_of c.in_ok-whole.whole.value) (words_from c.in_ok-whole.rest c.args.lexemes.now) c.in_ok-whole.ensures
    c.in_default.ensures

pub bound-returns-in_default : goal.bound-returns-in_default
bound-returns-in_default t c =
    bound_lacks c.args.depth (words_from c.args.at c.args.lexemes.now) (tree_of c.in_ok-value.value.value)
    (words_from c.in_ok-value.rest c.args.lexemes.now) c.in_ok-value.ensures c.in_default.ensures

pub conjuncts-returns-in_default : goal.conjuncts-returns-in_default
conjuncts-returns-in_default t c =
    others_done c.args.depth (words_from c.args.at c.args.lexemes.now) (trees_of c.loop-more.others.items)
    (words_from c.loop-more.left c.args.lexemes.now) c.loop-more.invariant c.in_default.ensures

pub conjuncts-returns-in_err-other : goal.conjuncts-returns-in_err-other
conjuncts-returns-in_err-other t c =
    let p = err_from_is_err_and c.from_residual.result c.from_residual.ensures.1 in
    rw (p.1, p.2) (failed _ (others_none c.args.depth (words_from c.args.at c.args.lexemes.now)
    (trees_of c.loop-more.others.items) (words_from c.loop-more.left c.args.lexemes.now)
    (words_from c.in-Some.more c.args.lexemes.now) c.loop-more.invariant c.in-Some.ensures) c.in_err-other.ensures)

pub conjuncts-loop-more-preserved : goal.conjuncts-loop-more-preserved
conjuncts-loop-more-preserved t c =
    let e : trees_of c.push.new.self.items ≡ joined (trees_of c.loop-more.others.items)
    (one (tree_of c.in_ok-other.other.value) none) = ap trees_of c.in_ok-push.ensures.items
    ∙ trees_push c.loop-more.others.items c.into_inner.result
    ∙ ap (λ k. joined (trees_of c.loop-more.others.items) (one (tree_of k) none)) c.into_inner.ensures in
    rw e (others_next c.args.depth (words_from c.args.at c.args.lexemes.now) (trees_of c.loop-more.others.items)
    (words_from c.loop-more.left c.args.lexemes.now) (words_from c.in-Some.more c.args.lexemes.now)
    (tree_of c.in_ok-other.other.value) (words_from c.in_ok-other.rest c.args.lexemes.now) c.loop-more.invariant
    c.in-Some.ensures c.in_ok-other.ensures)

pub elements-loop-values-init : goal.elements-loop-values-init
elements-loop-values-init t c =
    let e : trees_of c.new-values.result.items ≡ none = ap trees_of c.new-values.ensures.items in
    rw e (elements_first c.args.depth (words_from c.args.at c.args.lexemes.now) c.if-is_deepest.ensures
    c.in_default.ensures)

pub elements-returns-in_err-value : goal.elements-returns-in_err-value
elements-returns-in_err-value t c =
    let p = err_from_is_err_and c.from_residual.result c.from_residual.ensures.1 in
    rw (p.1, p.2) (failed _ (elements_none c.args.depth (words_from c.args.at c.args.lexemes.now)
    (trees_of c.loop-values.values.items) (words_from c.loop-values.left c.args.lexemes.now)
    c.loop-values.invariant) c.in_err-value.ensures)

pub elements-returns-in-Some-behind_mark : goal.elements-returns-in-Some-behind_mark
elements-returns-in-Some-behind_mark t c =
    let e : trees_of c.push.new.self.items ≡ joined (trees_of c.loop-values.values.items)
    (one (tree_of c.in_ok-value.value.value) none) = ap trees_of c.in_ok-push.ensures.items
    ∙ trees_push c.loop-values.values.items c.into_inner.result
    ∙ ap (λ k. joined (trees_of c.loop-values.values.items) (one (tree_of k) none)) c.into_inner.ensures in
    rw e (elements_done c.args.depth (words_from c.args.at c.args.lexemes.now) (trees_of c.loop-values.values.items)
    (words_from c.loop-values.left c.args.lexemes.now) (tree_of c.in_ok-value.value.value)
    (words_from c.in_ok-value.rest c.args.lexemes.now) (words_from c.in-Some-behind_mark.end c.args.lexemes.now)
    c.loop-values.invariant c.in_ok-value.ensures c.in-Some-behind_mark.ensures)

pub elements-returns-in_default-behind_mark-2 : goal.elements-returns-in_default-behind_mark-2
elements-returns-in_default-behind_mark-2 t c =
    elements_stuck c.args.depth (words_from c.args.at c.args.lexemes.now) (trees_of c.loop-values.values.items)
    (words_from c.loop-values.left c.args.lexemes.now) (tree_of c.in_ok-value.value.value)
    (words_from c.in_ok-value.rest c.args.lexemes.now) c.loop-values.invariant c.in_ok-value.ensures
    c.in_default-behind_mark.ensures c.in_default-behind_mark-2.ensures

pub elements-loop-values-preserved : goal.elements-loop-values-preserved
elements-loop-values-preserved t c =
    let e : trees_of c.push.new.self.items ≡ joined (trees_of c.loop-values.values.items)
    (one (tree_of c.in_ok-value.value.value) none) = ap trees_of c.in_ok-push.ensures.items
    ∙ trees_push c.loop-values.values.items c.into_inner.result
    ∙ ap (λ k. joined (trees_of c.loop-values.values.items) (one (tree_of k) none)) c.into_inner.ensures in
    rw e (elements_next c.args.depth (words_from c.args.at c.args.lexemes.now) (trees_of c.loop-values.values.items)
    (words_from c.loop-values.left c.args.lexemes.now) (tree_of c.in_ok-value.value.value)
    (words_from c.in_ok-value.rest c.args.lexemes.now) (words_from c.in-Some-behind_mark-2.more c.args.lexemes.now)
    c.loop-values.invariant c.in_ok-value.ensures c.in-Some-behind_mark-2.ensures)

pub expression-returns-in_err-left : goal.expression-returns-in_err-left
expression-returns-in_err-left t c =
    let p = err_from_is_err_and c.from_residual.result c.from_residual.ensures.1 in
    rw (p.1, p.2) (failed _ (expression_none c.args.depth (words_from c.args.at c.args.lexemes.now))
    c.in_err-left.ensures)

pub expression-returns-in_default : goal.expression-returns-in_default
expression-returns-in_default t c =
    expression_alone c.args.depth (words_from c.args.at c.args.lexemes.now) (tree_of c.in_ok-left.left.value)
    (words_from c.in_ok-left.rest c.args.lexemes.now) c.in_ok-left.ensures c.in_default.ensures

pub expression-returns-in_err-right : goal.expression-returns-in_err-right
expression-returns-in_err-right t c =
    let p = err_from_is_err_and c.from_residual-in_err-right.result c.from_residual-in_err-right.ensures.1 in
    rw (p.1, p.2) (failed _ (expression_half c.args.depth (words_from c.args.at c.args.lexemes.now)
    (tree_of c.in_ok-left.left.value) (words_from c.in_ok-left.rest c.args.lexemes.now) c.in-Some.relation
    (words_from c.in-Some.more c.args.lexemes.now) c.in_ok-left.ensures c.in-Some.ensures) c.in_err-right.ensures)

pub expression-returns-then-not-is_unrelated : goal.expression-returns-then-not-is_unrelated
expression-returns-then-not-is_unrelated t c =
    let r = c.if-not-is_unrelated.ensures in
    expression_twice c.args.depth (words_from c.args.at c.args.lexemes.now) (tree_of c.in_ok-left.left.value)
    (words_from c.in_ok-left.rest c.args.lexemes.now) c.in-Some.relation
    (words_from c.in-Some.more c.args.lexemes.now) (tree_of c.in_ok-right.right.value)
    (words_from c.in_ok-right.end c.args.lexemes.now) r.0 r.1 c.in_ok-left.ensures c.in-Some.ensures
    c.in_ok-right.ensures r.2

pub expression-returns : goal.expression-returns
expression-returns t c =
    built _ (Stands c.args.depth expression (words_from c.args.at c.args.lexemes.now)) c.args.lexemes.now _ _ _
    c.boxed.result c.comparison.ensures c.boxed.ensures
    (expression_done c.args.depth (words_from c.args.at c.args.lexemes.now) (tree_of c.in_ok-left.left.value)
    (words_from c.in_ok-left.rest c.args.lexemes.now) c.in-Some.relation
    (words_from c.in-Some.more c.args.lexemes.now) (tree_of c.in_ok-right.right.value)
    (words_from c.in_ok-right.end c.args.lexemes.now) c.in_ok-left.ensures c.in-Some.ensures c.in_ok-right.ensures
    c.if-not-is_unrelated.ensures)

pub interval-returns-in_err-low : goal.interval-returns-in_err-low
interval-returns-in_err-low t c =
    let p = err_from_is_err_and c.from_residual.result c.from_residual.ensures.1 in
    rw (p.1, p.2) (failed _ (interval_none c.args.depth (words_from c.args.at c.args.lexemes.now)) c.in_err-low.ensures)

pub interval-returns-in_err-item : goal.interval-returns-in_err-item
interval-returns-in_err-item t c =
    let p = err_from_is_err_and c.from_residual-in_err-item.result c.from_residual-in_err-item.ensures.1 in
    rw (p.1, p.2) (failed _ (interval_second c.args.depth (words_from c.args.at c.args.lexemes.now)
    (tree_of c.in_ok-low.low.value) c.in_ok-low.above (words_from c.in_ok-low.second c.args.lexemes.now)
    c.in_ok-low.ensures) c.in_err-item.ensures)

pub interval-returns-in_err-high : goal.interval-returns-in_err-high
interval-returns-in_err-high t c =
    let p = err_from_is_err_and c.from_residual-in_err-high.result c.from_residual-in_err-high.ensures.1 in
    rw (p.1, p.2) (failed _ (interval_half c.args.depth (words_from c.args.at c.args.lexemes.now)
    (tree_of c.in_ok-low.low.value) c.in_ok-low.above (words_from c.in_ok-low.second c.args.lexemes.now)
    (tree_of c.in_ok-item.item.value) c.in_ok-item.below (words_from c.in_ok-item.third c.args.lexemes.now)
    c.in_ok-low.ensures c.in_ok-item.ensures) c.in_err-high.ensures)

pub interval-returns : goal.interval-returns
interval-returns t c =
    built _ (Heads c.args.depth (mark marks.OpenBrace ∷ words_from c.args.at c.args.lexemes.now)) c.args.lexemes.now _ _
    _ c.boxed.result c.interval.ensures c.boxed.ensures
    (interval_heads c.args.depth (words_from c.args.at c.args.lexemes.now) (tree_of c.in_ok-low.low.value)
    c.in_ok-low.above (words_from c.in_ok-low.second c.args.lexemes.now) (tree_of c.in_ok-item.item.value)
    c.in_ok-item.below (words_from c.in_ok-item.third c.args.lexemes.now) (tree_of c.in_ok-high.high.value)
    (words_from c.in_ok-high.end c.args.lexemes.now) c.in_ok-low.ensures c.in_ok-item.ensures c.in_ok-high.ensures)

pub nvl-returns-in_default : goal.nvl-returns-in_default
nvl-returns-in_default t c =
    nvl_lacks c.args.depth (words_from c.args.at c.args.lexemes.now) c.in_default.ensures

pub nvl-returns-in_err-value : goal.nvl-returns-in_err-value
nvl-returns-in_err-value t c =
    let p = err_from_is_err_and c.from_residual.result c.from_residual.ensures.1 in
    rw (p.1, p.2) (failed _ (nvl_none c.args.depth (words_from c.args.at c.args.lexemes.now)
    (words_from c.in-Some.first c.args.lexemes.now) c.in-Some.ensures) c.in_err-value.ensures)

pub nvl-returns-in_err-substitute : goal.nvl-returns-in_err-substitute
nvl-returns-in_err-substitute t c =
    let p = err_from_is_err_and c.from_residual-in_err-substitute.result c.from_residual-in_err-substitute.ensures.1 in
    rw (p.1, p.2) (failed _ (nvl_half c.args.depth (words_from c.args.at c.args.lexemes.now)
    (words_from c.in-Some.first c.args.lexemes.now) (tree_of c.in_ok-value.value.value)
    (words_from c.in_ok-value.second c.args.lexemes.now) c.in-Some.ensures c.in_ok-value.ensures)
    c.in_err-substitute.ensures)

pub nvl-returns : goal.nvl-returns
nvl-returns t c =
    built _ (Heads c.args.depth (keyword keywords.Nvl ∷ words_from c.args.at c.args.lexemes.now)) c.args.lexemes.now _ _
    _ c.boxed.result c.nvl.ensures c.boxed.ensures (nvl_heads c.args.depth (words_from c.args.at c.args.lexemes.now)
    (words_from c.in-Some.first c.args.lexemes.now) (tree_of c.in_ok-value.value.value)
    (words_from c.in_ok-value.second c.args.lexemes.now) (tree_of c.in_ok-substitute.substitute.value)
    (words_from c.in_ok-substitute.end c.args.lexemes.now) c.in-Some.ensures c.in_ok-value.ensures
    c.in_ok-substitute.ensures)

pub primary-returns-in_default : goal.primary-returns-in_default
primary-returns-in_default t c =
    primary_none c.args.depth (words_from c.args.at c.args.lexemes.now) c.in_default.ensures

pub qualifier-returns-in-None : goal.qualifier-returns-in-None
qualifier-returns-in-None t c =
    no_attribute c.args.depth (words_from c.args.at c.args.lexemes.now) c.in_default.ensures
    (rw c.in-None.is at c.attribute.ensures)

pub qualifiers-returns-then-is_unqualified : goal.qualifiers-returns-then-is_unqualified
qualifiers-returns-then-is_unqualified t c =
    selects_done c.args.depth (words_from c.args.at c.args.lexemes.now) (qualifiers_of c.loop-alloc.qualifiers.items)
    (words_from c.loop-alloc.left c.args.lexemes.now) c.loop-alloc.invariant c.if-is_unqualified.ensures

pub qualifiers-returns-in_err-qualifier : goal.qualifiers-returns-in_err-qualifier
qualifiers-returns-in_err-qualifier t c =
    let p = err_from_is_err_and c.from_residual.result c.from_residual.ensures.1 in
    rw (p.1, p.2) (failed _ (selects_none c.args.depth (words_from c.args.at c.args.lexemes.now)
    (qualifiers_of c.loop-alloc.qualifiers.items) (words_from c.loop-alloc.left c.args.lexemes.now)
    c.loop-alloc.invariant c.if-is_unqualified.ensures) c.in_err-qualifier.ensures)

pub qualifiers-loop-alloc-smaller : goal.qualifiers-loop-alloc-smaller
qualifiers-loop-alloc-smaller t c =
    qualifies_shorter c.args.depth (words_from c.loop-alloc.left c.args.lexemes.now)
    (selection_of c.in_ok-qualifier.qualifier) (words_from c.in_ok-qualifier.rest c.args.lexemes.now)
    c.in_ok-qualifier.ensures

pub qualifiers-loop-alloc-preserved : goal.qualifiers-loop-alloc-preserved
qualifiers-loop-alloc-preserved t c =
    let e : qualifiers_of c.push.new.self.items ≡ joined_qualifiers (qualifiers_of c.loop-alloc.qualifiers.items)
    (selected (selection_of c.in_ok-qualifier.qualifier) plain) = ap qualifiers_of c.in_ok-push.ensures.items
    ∙ qualifiers_push c.loop-alloc.qualifiers.items c.in_ok-qualifier.qualifier in
    rw e (selects_next c.args.depth (words_from c.args.at c.args.lexemes.now)
    (qualifiers_of c.loop-alloc.qualifiers.items) (words_from c.loop-alloc.left c.args.lexemes.now)
    (selection_of c.in_ok-qualifier.qualifier) (words_from c.in_ok-qualifier.rest c.args.lexemes.now)
    c.loop-alloc.invariant c.if-is_unqualified.ensures c.in_ok-qualifier.ensures)

pub query-returns-in_default : goal.query-returns-in_default
query-returns-in_default t c =
    query_lacks c.args.depth (words_from c.args.at c.args.lexemes.now) c.in_default.ensures

pub query-returns-in_err-source : goal.query-returns-in_err-source
query-returns-in_err-source t c =
    let p = err_from_is_err_and c.from_residual.result c.from_residual.ensures.1 in
    rw (p.1, p.2) (failed _ (query_none c.args.depth (words_from c.args.at c.args.lexemes.now)
    (capitals c.in-Some.variable) (words_from c.in-Some.first c.args.lexemes.now) c.in-Some.ensures)
    c.in_err-source.ensures)

pub query-returns-in_err-condition : goal.query-returns-in_err-condition
query-returns-in_err-condition t c =
    let p = err_from_is_err_and c.from_residual-in_err-condition.result c.from_residual-in_err-condition.ensures.1 in
    rw (p.1, p.2) (failed _ (query_half c.args.depth (words_from c.args.at c.args.lexemes.now)
    (capitals c.in-Some.variable) (words_from c.in-Some.first c.args.lexemes.now)
    (tree_of c.in_ok-source.source.value) (words_from c.in_ok-source.second c.args.lexemes.now) c.in-Some.ensures
    c.in_ok-source.ensures) c.in_err-condition.ensures)

pub query-returns : goal.query-returns
query-returns t c =
    built _ (Heads c.args.depth (keyword keywords.Query ∷ words_from c.args.at c.args.lexemes.now)) c.args.lexemes.now _
    _ _ c.boxed.result c.query.ensures c.boxed.ensures
    (query_heads c.args.depth (words_from c.args.at c.args.lexemes.now) (capitals c.in-Some.variable)
    (words_from c.in-Some.first c.args.lexemes.now) (tree_of c.in_ok-source.source.value)
    (words_from c.in_ok-source.second c.args.lexemes.now) (tree_of c.in_ok-condition.condition.value)
    (words_from c.in_ok-condition.end c.args.lexemes.now) c.in-Some.ensures c.in_ok-source.ensures
    c.in_ok-condition.ensures)

pub simple-returns-in_err-first : goal.simple-returns-in_err-first
simple-returns-in_err-first t c =
    let p = err_from_is_err_and c.from_residual.result c.from_residual.ensures.1 in
    rw (p.1, p.2) (failed _ (simple_none c.args.depth (words_from c.args.at c.args.lexemes.now)) c.in_err-first.ensures)

pub simple-returns-in_err-others : goal.simple-returns-in_err-others
simple-returns-in_err-others t c =
    let p = err_from_is_err_and c.from_residual-in_err-others.result c.from_residual-in_err-others.ensures.1 in
    rw (p.1, p.2) (failed _ (simple_half c.args.depth (words_from c.args.at c.args.lexemes.now)
    (tree_of c.in_ok-first.first.value) (words_from c.in_ok-first.rest c.args.lexemes.now) c.in_ok-first.ensures)
    c.in_err-others.ensures)

pub simple-returns : goal.simple-returns
simple-returns t c =
    built _ (Stands c.args.depth simple (words_from c.args.at c.args.lexemes.now)) c.args.lexemes.now _ _ _
    c.disjoined.result refl c.disjoined.ensures (simple_done c.args.depth (words_from c.args.at c.args.lexemes.now)
    (tree_of c.in_ok-first.first.value) (words_from c.in_ok-first.rest c.args.lexemes.now)
    (alternatives_of c.in_ok-others.others.items) (words_from c.in_ok-others.end c.args.lexemes.now)
    c.in_ok-first.ensures c.in_ok-others.ensures)

pub term-returns-in_err-first : goal.term-returns-in_err-first
term-returns-in_err-first t c =
    let p = err_from_is_err_and c.from_residual.result c.from_residual.ensures.1 in
    rw (p.1, p.2) (failed _ (term_none c.args.depth (words_from c.args.at c.args.lexemes.now)) c.in_err-first.ensures)

pub term-returns-in_err-others : goal.term-returns-in_err-others
term-returns-in_err-others t c =
    let p = err_from_is_err_and c.from_residual-in_err-others.result c.from_residual-in_err-others.ensures.1 in
    rw (p.1, p.2) (failed _ (term_half c.args.depth (words_from c.args.at c.args.lexemes.now)
    (tree_of c.in_ok-first.first.value) (words_from c.in_ok-first.rest c.args.lexemes.now) c.in_ok-first.ensures)
    c.in_err-others.ensures)

pub term-returns : goal.term-returns
term-returns t c =
    built _ (Stands c.args.depth term (words_from c.args.at c.args.lexemes.now)) c.args.lexemes.now _ _ _
    c.conjoined.result refl c.conjoined.ensures (term_done c.args.depth (words_from c.args.at c.args.lexemes.now)
    (tree_of c.in_ok-first.first.value) (words_from c.in_ok-first.rest c.args.lexemes.now)
    (trees_of c.in_ok-others.others.items) (words_from c.in_ok-others.end c.args.lexemes.now) c.in_ok-first.ensures
    c.in_ok-others.ensures)

pub started-returns-in_err-values-in-Bracket : goal.started-returns-in_err-values-in-Bracket
started-returns-in_err-values-in-Bracket t c =
    let p = err_from_is_err_and c.from_residual.result c.from_residual.ensures.1 in
    rw (c.in-Bracket.is, p.1, p.2) (failed _ (aggregate_none c.args.depth (words_from c.args.at c.args.lexemes.now))
    c.in_err-values-in-Bracket.ensures)

pub started-returns-in_err-qualifiers-in-Reference : goal.started-returns-in_err-qualifiers-in-Reference
started-returns-in_err-qualifiers-in-Reference t c =
    let p = err_from_is_err_and c.from_residual-in_err-qualifiers-in-Reference.result
    c.from_residual-in_err-qualifiers-in-Reference.ensures.1 in
    rw (c.in-Reference.is, p.1, p.2) (failed _ (reference_none c.args.depth (root_of c.in-Reference.root)
    (words_from c.args.at c.args.lexemes.now)) c.in_err-qualifiers-in-Reference.ensures)

pub started-returns-in-Literal : goal.started-returns-in-Literal
started-returns-in-Literal t c =
    rw c.in-Literal.is (built _ (Heads c.args.depth (word_of_literal (literal_of c.in-Literal.value)
    ∷ words_from c.args.at c.args.lexemes.now)) c.args.lexemes.now _ _ _ c.boxed.result c.literal.ensures
    c.boxed.ensures (literal_heads c.args.depth (literal_of c.in-Literal.value)
    (words_from c.args.at c.args.lexemes.now)))

pub started-returns-in_ok-values-in-Bracket : goal.started-returns-in_ok-values-in-Bracket
started-returns-in_ok-values-in-Bracket t c =
    rw c.in-Bracket.is (built _ (Heads c.args.depth (mark marks.OpenBracket ∷ words_from c.args.at c.args.lexemes.now))
    c.args.lexemes.now _ _ _ c.boxed-in-Bracket.result c.aggregate.ensures c.boxed-in-Bracket.ensures
    (aggregate_heads c.args.depth (words_from c.args.at c.args.lexemes.now)
    (trees_of c.in_ok-values-in-Bracket.values.items) (words_from c.in_ok-values-in-Bracket.end c.args.lexemes.now)
    c.in_ok-values-in-Bracket.ensures))

pub started-returns-in_ok-qualifiers-in-Reference : goal.started-returns-in_ok-qualifiers-in-Reference
started-returns-in_ok-qualifiers-in-Reference t c =
    rw c.in-Reference.is (built _ (Heads c.args.depth (word_of_root (root_of c.in-Reference.root)
    ∷ words_from c.args.at c.args.lexemes.now)) c.args.lexemes.now _ _ _ c.boxed-in-Reference.result
    c.reference.ensures c.boxed-in-Reference.ensures (reference_heads c.args.depth (root_of c.in-Reference.root)
    (words_from c.args.at c.args.lexemes.now) (qualifiers_of c.in_ok-qualifiers-in-Reference.qualifiers.items)
    (words_from c.in_ok-qualifiers-in-Reference.end c.args.lexemes.now) c.in_ok-qualifiers-in-Reference.ensures))

pub unary-returns-in_default-behind_keyword : goal.unary-returns-in_default-behind_keyword
unary-returns-in_default-behind_keyword t c =
    reading_map c.primary.result (unary_none c.args.depth (words_from c.args.at c.args.lexemes.now) c.in_default.ensures
    c.in_default-behind_keyword.ensures) (λ p h. unary_done c.args.depth (words_from c.args.at c.args.lexemes.now)
    (boxed_tree p.0) (words_from p.1 c.args.lexemes.now) h) c.primary.ensures

pub unary-returns-in_err-inner : goal.unary-returns-in_err-inner
unary-returns-in_err-inner t c =
    let p = err_from_is_err_and c.from_residual.result c.from_residual.ensures.1 in
    rw (p.1, p.2) (failed _ (negation_none c.args.depth (words_from c.args.at c.args.lexemes.now)
    (words_from c.in-Some-behind_keyword.more c.args.lexemes.now) c.in-Some-behind_keyword.ensures)
    c.in_err-inner.ensures)

pub parenthesized-returns-in_err-inner : goal.parenthesized-returns-in_err-inner
parenthesized-returns-in_err-inner t c =
    let p = err_from_is_err_and c.from_residual.result c.from_residual.ensures.1 in
    rw (p.1, p.2) (failed _ (parenthesized_none c.args.depth (words_from c.args.at c.args.lexemes.now))
    c.in_err-inner.ensures)

pub parenthesized-returns : goal.parenthesized-returns
parenthesized-returns t c =
    built _ (Heads c.args.depth (mark marks.Open ∷ words_from c.args.at c.args.lexemes.now)) c.args.lexemes.now _ _ _
    c.boxed.result c.parenthesized.ensures c.boxed.ensures
    (parenthesized_heads c.args.depth (words_from c.args.at c.args.lexemes.now) (tree_of c.in_ok-inner.inner.value)
    (words_from c.in_ok-inner.end c.args.lexemes.now) c.in_ok-inner.ensures)

pub called-returns-in_default : goal.called-returns-in_default
called-returns-in_default t c =
    call_lacks c.args.depth c.args.function (words_from c.args.at c.args.lexemes.now) c.in_default.ensures

pub called-returns-in_err-argument : goal.called-returns-in_err-argument
called-returns-in_err-argument t c =
    let p = err_from_is_err_and c.from_residual.result c.from_residual.ensures.1 in
    rw (p.1, p.2) (failed _ (call_none c.args.depth c.args.function (words_from c.args.at c.args.lexemes.now)
    (words_from c.in-Some.more c.args.lexemes.now) c.in-Some.ensures) c.in_err-argument.ensures)

pub called-returns : goal.called-returns
called-returns t c =
    built _ (Heads c.args.depth (word_of_function c.args.function ∷ words_from c.args.at c.args.lexemes.now))
    c.args.lexemes.now _ _ _ c.boxed.result c.call.ensures c.boxed.ensures (call_heads c.args.depth c.args.function
    (words_from c.args.at c.args.lexemes.now) (words_from c.in-Some.more c.args.lexemes.now)
    (tree_of c.in_ok-argument.argument.value) (words_from c.in_ok-argument.end c.args.lexemes.now) c.in-Some.ensures
    c.in_ok-argument.ensures)

pub unary-returns : goal.unary-returns
unary-returns t c =
    built _ (Stands c.args.depth unary (words_from c.args.at c.args.lexemes.now)) c.args.lexemes.now _ _ _
    c.boxed.result c.negation.ensures c.boxed.ensures
    (negation_done c.args.depth (words_from c.args.at c.args.lexemes.now) (words_from c.in-Some-behind_keyword.more
    c.args.lexemes.now) (tree_of c.in_ok-inner.inner.value) (words_from c.in_ok-inner.end c.args.lexemes.now)
    c.in-Some-behind_keyword.ensures c.in_ok-inner.ensures)
