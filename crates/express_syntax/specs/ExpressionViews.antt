-- The trees that the program's values represent. Case doesn't matter in names.
use Rattle.std.specs.Prelude.{ℕ, List, [], ◌∷◌, map}
use Rattle.step_literals.specs.Words.{upper}
use Rattle.step_literals.specs.declared.literal.Word.{Word}
use Rattle.express_syntax.specs.declared.expression.Junction.{Junction}
use Rattle.express_syntax.specs.declared.expression.Number.{Number}
use Rattle.express_syntax.specs.declared.expression.Number.TheVariants as numbers
use Rattle.express_syntax.specs.declared.expression.Literal.{Literal}
use Rattle.express_syntax.specs.declared.expression.Literal.TheVariants as literals
use Rattle.express_syntax.specs.declared.expression.Root.{Root}
use Rattle.express_syntax.specs.declared.expression.Root.TheVariants as roots
use Rattle.express_syntax.specs.declared.expression.Expr.{Expr}
use Rattle.express_syntax.specs.declared.expression.Qualifier.{Qualifier}
use Rattle.express_syntax.specs.declared.expression.Alternative.{Alternative}
use Rattle.express_syntax.specs.declared.expression.Expr.TheOpen.{Expr-F, Qualifier-F, Alternative-F}
use Rattle.express_syntax.specs.declared.expression.Expr.TheOpen as layer
use Rattle.express_syntax.specs.declared.expression.Expr.TheFolds.{fold-Expr, fold-Qualifier, fold-Alternative}
use Rattle.express_syntax.specs.Trees.{Tree, literal, signed, reference, parenthesized, aggregate, interval, query, call, nvl, negation, conjunction, disjunction, comparison, Trees, none, one, Alternatives, finish, another, Qualifiers, plain, attribute, group, index, whole, decimal, number, text, codes_of_text, bits, constant, indeterminate, own, named}
use Rattle.express_syntax.specs.Trees as trees

abbrev pub capitals : Word → List ℕ
capitals w = upper w.text.now

abbrev pub number_of : Number → trees.Number
number_of (numbers.Integer d) = whole d.text.now
number_of (numbers.Real d) = decimal d.text.now

abbrev pub literal_of : Literal → trees.Literal
literal_of (literals.Number n) = number (number_of n)
literal_of (literals.String s) = text s.text.now
literal_of (literals.Encoded s) = codes_of_text s.text.now
literal_of (literals.Binary b) = bits b.text.now
literal_of (literals.Logical l) = constant l
literal_of literals.Indeterminate = indeterminate

abbrev pub root_of : Root → trees.Root
root_of roots.SelfInstance = own
root_of (roots.Name w) = named (capitals w)

-- OR or XOR, and the term after it
pub data Choice : Type 0 where
  choice : Junction → Tree → Choice

-- one qualifier of a reference
pub data Selection : Type 0 where
  of_attribute : List ℕ → Selection
  of_group : List ℕ → List ℕ → Selection
  of_element : Tree → Selection

abbrev pub all_of : List Tree → Trees
all_of [] = none
all_of (x ∷ xs) = one x (all_of xs)

abbrev pub choices_of : List Choice → Alternatives
choices_of [] = finish
choices_of (choice j x ∷ cs) = another j x (choices_of cs)

abbrev pub selections_of : List Selection → Qualifiers
selections_of [] = plain
selections_of (of_attribute a ∷ ss) = attribute a (selections_of ss)
selections_of (of_group e a ∷ ss) = group e a (selections_of ss)
selections_of (of_element x ∷ ss) = index x (selections_of ss)

-- an expression, where each inner expression is already its tree
abbrev pub tree_step : Expr-F Tree Selection Choice → Tree
tree_step (layer.Literal l) = literal (literal_of l)
tree_step (layer.Signed s n) = signed s (number_of n)
tree_step (layer.Reference r qs) = reference (root_of r) (selections_of qs.items)
tree_step (layer.Parenthesized x) = parenthesized x.value
tree_step (layer.Aggregate xs) = aggregate (all_of xs.items)
tree_step (layer.Interval low above x below high) = interval low.value above x.value below high.value
tree_step (layer.Query w source condition) = query (capitals w) source.value condition.value
tree_step (layer.Call f x) = call f x.value
tree_step (layer.Nvl x y) = nvl x.value y.value
tree_step (layer.Not x) = negation x.value
tree_step (layer.Conjunction x xs) = conjunction x.value (all_of xs.items)
tree_step (layer.Disjunction x xs) = disjunction x.value (choices_of xs.items)
tree_step (layer.Comparison x r y) = comparison x.value r y.value

abbrev pub selection_step : Qualifier-F Tree Selection Choice → Selection
selection_step (layer.Attribute w) = of_attribute (capitals w)
selection_step (layer.Group e w) = of_group (capitals e) (capitals w)
selection_step (layer.Index x) = of_element x.value

abbrev pub choice_step : Alternative-F Tree Selection Choice → Choice
choice_step a = choice a.junction a.term

-- the tree that an expression represents
abbrev pub tree_of : Expr → Tree
tree_of = fold-Expr Tree Selection Choice tree_step selection_step choice_step

abbrev pub selection_of : Qualifier → Selection
selection_of = fold-Qualifier Tree Selection Choice tree_step selection_step choice_step

abbrev pub choice_of : Alternative → Choice
choice_of = fold-Alternative Tree Selection Choice tree_step selection_step choice_step

abbrev pub trees_of : List Expr → Trees
trees_of xs = all_of (map tree_of xs)

abbrev pub qualifiers_of : List Qualifier → Qualifiers
qualifiers_of qs = selections_of (map selection_of qs)

abbrev pub alternatives_of : List Alternative → Alternatives
alternatives_of xs = choices_of (map choice_of xs)
