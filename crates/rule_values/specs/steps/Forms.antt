-- Forms of relations, functions and expressions that are distinguished.
use Rattle.std.specs.Prelude.{Bool, true, false}
use Rattle.express_syntax.specs.Trees.{Tree, parenthesized, interval, negation, conjunction, disjunction, comparison}
use Rattle.express_syntax.specs.declared.expression.Relation.{Relation}
use Rattle.express_syntax.specs.declared.expression.Relation.TheVariants as relations
use Rattle.express_syntax.specs.declared.expression.Function.{Function}
use Rattle.express_syntax.specs.declared.expression.Function.TheVariants as functions

abbrev pub is_in : Relation → Bool
is_in relations.In = true
is_in r = false

abbrev pub is_typeof : Function → Bool
is_typeof functions.Typeof = true
is_typeof f = false

abbrev pub is_sizeof : Function → Bool
is_sizeof functions.Sizeof = true
is_sizeof f = false

-- a condition by its form, in parentheses or not
abbrev pub is_condition : Tree → Bool
is_condition (parenthesized x) = is_condition x
is_condition (interval low above x below high) = true
is_condition (negation x) = true
is_condition (conjunction x xs) = true
is_condition (disjunction x xs) = true
is_condition (comparison x r y) = true
is_condition x = false
