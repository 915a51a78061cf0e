use Rattle.std.proofs.Common.{◌+◌, ◌*◌, ◌-◌, length}
use Rattle.express_syntax.specs.ExpressionViews.{trees_of, alternatives_of, qualifiers_of}
use Rattle.express_expressions.specs.steps.Pieces.{words_from}
use Rattle.express_expressions.proofs.Chains.{OthersSoFar, MoreSoFar, SelectsSoFar, ElementsSoFar}
use Rattle.express_expressions.proofs.reader.+reader.Given as goal

abbrev pub decreases-bound : goal.decreases-bound
decreases-bound l = 16 * (64 - l.depth) + 1

abbrev pub decreases-qualifier : goal.decreases-qualifier
decreases-qualifier l = 16 * (64 - l.depth) + 4

abbrev pub decreases-qualifiers : goal.decreases-qualifiers
decreases-qualifiers l = 16 * (64 - l.depth) + 5

abbrev pub decreases-elements : goal.decreases-elements
decreases-elements l = 16 * (64 - l.depth) + 5

abbrev pub decreases-nvl : goal.decreases-nvl
decreases-nvl l = 16 * (64 - l.depth) + 5

abbrev pub decreases-query : goal.decreases-query
decreases-query l = 16 * (64 - l.depth) + 5

abbrev pub decreases-interval : goal.decreases-interval
decreases-interval l = 16 * (64 - l.depth) + 5

abbrev pub decreases-before : goal.decreases-before
decreases-before l = 16 * (64 - l.depth) + 3

abbrev pub decreases-started : goal.decreases-started
decreases-started l = 16 * (64 - l.depth) + 6

abbrev pub decreases-primary : goal.decreases-primary
decreases-primary l = 16 * (64 - l.depth) + 7

abbrev pub decreases-unary : goal.decreases-unary
decreases-unary l = 16 * (64 - l.depth) + 8

abbrev pub decreases-conjuncts : goal.decreases-conjuncts
decreases-conjuncts l = 16 * (64 - l.depth) + 9

abbrev pub decreases-term : goal.decreases-term
decreases-term l = 16 * (64 - l.depth) + 10

abbrev pub decreases-alternatives : goal.decreases-alternatives
decreases-alternatives l = 16 * (64 - l.depth) + 11

abbrev pub decreases-simple : goal.decreases-simple
decreases-simple l = 16 * (64 - l.depth) + 12

abbrev pub decreases-expression : goal.decreases-expression
decreases-expression l = 16 * (64 - l.depth) + 13

abbrev pub decreases-inside : goal.decreases-inside
decreases-inside l = 16 * (64 - l.depth) + 14

abbrev pub invariant-conjuncts-loop-more : goal.invariant-conjuncts-loop-more
invariant-conjuncts-loop-more l = OthersSoFar l.depth (words_from l.at l.lexemes) (trees_of l.others.items)
    (words_from l.left l.lexemes)

abbrev pub decreases-conjuncts-loop-more : goal.decreases-conjuncts-loop-more
decreases-conjuncts-loop-more l = length (words_from l.left l.lexemes)

abbrev pub invariant-alternatives-loop-junction : goal.invariant-alternatives-loop-junction
invariant-alternatives-loop-junction l = MoreSoFar l.depth (words_from l.at l.lexemes) (alternatives_of l.others.items)
    (words_from l.left l.lexemes)

abbrev pub decreases-alternatives-loop-junction : goal.decreases-alternatives-loop-junction
decreases-alternatives-loop-junction l = length (words_from l.left l.lexemes)

abbrev pub invariant-qualifiers-loop-alloc : goal.invariant-qualifiers-loop-alloc
invariant-qualifiers-loop-alloc l = SelectsSoFar l.depth (words_from l.at l.lexemes) (qualifiers_of l.qualifiers.items)
    (words_from l.left l.lexemes)

abbrev pub decreases-qualifiers-loop-alloc : goal.decreases-qualifiers-loop-alloc
decreases-qualifiers-loop-alloc l = length (words_from l.left l.lexemes)

abbrev pub invariant-elements-loop-values : goal.invariant-elements-loop-values
invariant-elements-loop-values l = ElementsSoFar l.depth (words_from l.at l.lexemes) (trees_of l.values.items)
    (words_from l.left l.lexemes)

abbrev pub decreases-elements-loop-values : goal.decreases-elements-loop-values
decreases-elements-loop-values l = length (words_from l.left l.lexemes)

abbrev pub decreases-parenthesized : goal.decreases-parenthesized
decreases-parenthesized l = 16 * (64 - l.depth) + 5

abbrev pub decreases-called : goal.decreases-called
decreases-called l = 16 * (64 - l.depth) + 5
