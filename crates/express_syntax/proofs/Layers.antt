-- Expressions and qualifiers as trees, layer by layer.
use Rattle.std.specs.Prelude.{◌≡◌, Vec, Box}
use Rattle.std.proofs.Common.{Global, ap, sym, ◌∙◌}
use Rattle.step_literals.specs.declared.literal.Word.{Word}
use Rattle.express_syntax.specs.declared.expression.Number.{Number}
use Rattle.express_syntax.specs.declared.expression.Literal.{Literal}
use Rattle.express_syntax.specs.declared.expression.Sign.{Sign}
use Rattle.express_syntax.specs.declared.expression.Limit.{Limit}
use Rattle.express_syntax.specs.declared.expression.Relation.{Relation}
use Rattle.express_syntax.specs.declared.expression.Function.{Function}
use Rattle.express_syntax.specs.declared.expression.Root.{Root}
use Rattle.express_syntax.specs.declared.expression.Expr.{Expr}
use Rattle.express_syntax.specs.declared.expression.Expr.TheVariants as exprs
use Rattle.express_syntax.specs.declared.expression.Expr.TheOpen as layer
use Rattle.express_syntax.specs.declared.expression.Expr.TheFolds.{fold-roll-Expr, fold-roll-Qualifier}
use Rattle.express_syntax.specs.declared.expression.Qualifier.{Qualifier}
use Rattle.express_syntax.specs.declared.expression.Qualifier.TheVariants as qualifiers
use Rattle.express_syntax.specs.declared.expression.Alternative.{Alternative}
use Rattle.express_syntax.specs.Trees as trees
use Rattle.express_syntax.specs.Trees.{Tree}
use Rattle.express_syntax.specs.ExpressionViews.{Selection, Choice, of_attribute, of_group, of_element, tree_step, selection_step, choice_step, capitals, number_of, literal_of, root_of, tree_of, selection_of, trees_of, qualifiers_of, alternatives_of}

pub literal-seen : (l : Literal) → tree_of (exprs.Literal l) ≡ trees.literal (literal_of l)
literal-seen l =
    ap tree_of (sym (exprs.rolls-Literal l))
    ∙ fold-roll-Expr Tree Selection Choice tree_step selection_step choice_step (layer.Literal l)

pub signed-seen : (s : Sign) (n : Number) → tree_of (exprs.Signed s n) ≡ trees.signed s (number_of n)
signed-seen s n =
    ap tree_of (sym (exprs.rolls-Signed s n))
    ∙ fold-roll-Expr Tree Selection Choice tree_step selection_step choice_step (layer.Signed s n)

pub reference-seen : (r : Root) (qs : Vec Qualifier Global) → tree_of (exprs.Reference r qs) ≡ trees.reference (root_of r) (qualifiers_of qs.items)
reference-seen r qs =
    ap tree_of (sym (exprs.rolls-Reference r qs))
    ∙ fold-roll-Expr Tree Selection Choice tree_step selection_step choice_step (layer.Reference r qs)

pub parenthesized-seen : (x : Box Expr Global) → tree_of (exprs.Parenthesized x) ≡ trees.parenthesized (tree_of x.value)
parenthesized-seen x =
    ap tree_of (sym (exprs.rolls-Parenthesized x))
    ∙ fold-roll-Expr Tree Selection Choice tree_step selection_step choice_step (layer.Parenthesized x)

pub aggregate-seen : (xs : Vec Expr Global) → tree_of (exprs.Aggregate xs) ≡ trees.aggregate (trees_of xs.items)
aggregate-seen xs =
    ap tree_of (sym (exprs.rolls-Aggregate xs))
    ∙ fold-roll-Expr Tree Selection Choice tree_step selection_step choice_step (layer.Aggregate xs)

pub interval-seen : (low : Box Expr Global) (above : Limit) (x : Box Expr Global) (below : Limit) (high : Box Expr Global) → tree_of (exprs.Interval low above x below high) ≡ trees.interval (tree_of low.value) above (tree_of x.value) below (tree_of high.value)
interval-seen low above x below high =
    ap tree_of (sym (exprs.rolls-Interval low above x below high))
    ∙ fold-roll-Expr Tree Selection Choice tree_step selection_step choice_step (layer.Interval low above x below high)

pub query-seen : (v : Word) (source condition : Box Expr Global) → tree_of (exprs.Query v source condition) ≡ trees.query (capitals v) (tree_of source.value) (tree_of condition.value)
query-seen v source condition =
    ap tree_of (sym (exprs.rolls-Query v source condition))
    ∙ fold-roll-Expr Tree Selection Choice tree_step selection_step choice_step (layer.Query v source condition)

pub call-seen : (f : Function) (x : Box Expr Global) → tree_of (exprs.Call f x) ≡ trees.call f (tree_of x.value)
call-seen f x =
    ap tree_of (sym (exprs.rolls-Call f x))
    ∙ fold-roll-Expr Tree Selection Choice tree_step selection_step choice_step (layer.Call f x)

pub nvl-seen : (x y : Box Expr Global) → tree_of (exprs.Nvl x y) ≡ trees.nvl (tree_of x.value) (tree_of y.value)
nvl-seen x y =
    ap tree_of (sym (exprs.rolls-Nvl x y))
    ∙ fold-roll-Expr Tree Selection Choice tree_step selection_step choice_step (layer.Nvl x y)

pub not-seen : (x : Box Expr Global) → tree_of (exprs.Not x) ≡ trees.negation (tree_of x.value)
not-seen x =
    ap tree_of (sym (exprs.rolls-Not x))
    ∙ fold-roll-Expr Tree Selection Choice tree_step selection_step choice_step (layer.Not x)

pub conjunction-seen : (x : Box Expr Global) (xs : Vec Expr Global) → tree_of (exprs.Conjunction x xs) ≡ trees.conjunction (tree_of x.value) (trees_of xs.items)
conjunction-seen x xs =
    ap tree_of (sym (exprs.rolls-Conjunction x xs))
    ∙ fold-roll-Expr Tree Selection Choice tree_step selection_step choice_step (layer.Conjunction x xs)

pub disjunction-seen : (x : Box Expr Global) (xs : Vec Alternative Global) → tree_of (exprs.Disjunction x xs) ≡ trees.disjunction (tree_of x.value) (alternatives_of xs.items)
disjunction-seen x xs =
    ap tree_of (sym (exprs.rolls-Disjunction x xs))
    ∙ fold-roll-Expr Tree Selection Choice tree_step selection_step choice_step (layer.Disjunction x xs)

pub comparison-seen : (x : Box Expr Global) (r : Relation) (y : Box Expr Global) → tree_of (exprs.Comparison x r y) ≡ trees.comparison (tree_of x.value) r (tree_of y.value)
comparison-seen x r y =
    ap tree_of (sym (exprs.rolls-Comparison x r y))
    ∙ fold-roll-Expr Tree Selection Choice tree_step selection_step choice_step (layer.Comparison x r y)

pub attribute-selected : (a : Word) → selection_of (qualifiers.Attribute a) ≡ of_attribute (capitals a)
attribute-selected a =
    ap selection_of (sym (qualifiers.rolls-Attribute a))
    ∙ fold-roll-Qualifier Tree Selection Choice tree_step selection_step choice_step (layer.Attribute a)

pub group-selected : (e a : Word) → selection_of (qualifiers.Group e a) ≡ of_group (capitals e) (capitals a)
group-selected e a =
    ap selection_of (sym (qualifiers.rolls-Group e a))
    ∙ fold-roll-Qualifier Tree Selection Choice tree_step selection_step choice_step (layer.Group e a)

pub index-selected : (x : Box Expr Global) → selection_of (qualifiers.Index x) ≡ of_element (tree_of x.value)
index-selected x =
    ap selection_of (sym (qualifiers.rolls-Index x))
    ∙ fold-roll-Qualifier Tree Selection Choice tree_step selection_step choice_step (layer.Index x)
