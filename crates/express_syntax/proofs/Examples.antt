-- Words of expressions, and words of none.
use Rattle.std.proofs.Common.{ℕ, ◌<◌, List, [], ◌∷◌, refl, arith, codes}
use Rattle.express_lexer.specs.declared.marks.Mark.TheVariants as marks
use Rattle.express_syntax.specs.declared.keyword.Keyword.TheVariants as keywords
use Rattle.express_syntax.specs.declared.expression.Sign.TheVariants as signs
use Rattle.express_syntax.specs.declared.expression.Relation.TheVariants as relations
use Rattle.express_syntax.specs.declared.expression.Limit.TheVariants as limits
use Rattle.express_syntax.specs.declared.expression.Junction.TheVariants as junctions
use Rattle.express_syntax.specs.declared.expression.Function.TheVariants as functions
use Rattle.express_syntax.specs.Words.{keyword, name, integer, real, string, mark}
use Rattle.express_syntax.specs.Trees.{whole, decimal, number, text, own, named, Tree, literal, signed, reference, parenthesized, aggregate, interval, query, call, negation, conjunction, disjunction, comparison, none, one, finish, another, plain, attribute, group, index}
use Rattle.express_syntax.specs.Grammar.{IsExpression, IsNone}
use Rattle.express_syntax.proofs.Nothing.{none_parsed, none_fits}

abbrev named_so : List ℕ → Tree
named_so n = reference (named n) plain

-- NOT a AND b OR c
not_binds_tighter : IsExpression 0
    (keyword keywords.Not ∷ name (codes "A") ∷ keyword keywords.And ∷ name (codes "B") ∷ keyword keywords.Or
    ∷ name (codes "C") ∷ [])
    (disjunction (conjunction (negation (named_so (codes "A"))) (one (named_so (codes "B")) none))
    (another junctions.Or (named_so (codes "C")) finish))
not_binds_tighter = record {
  fits = (omega arith, (omega arith, (omega arith, tt), (tt, tt)), (tt, tt));
  spelled = refl;
}

-- {0 < volume <= 1.E3}
an_interval : IsExpression 0
    (mark marks.OpenBrace ∷ integer (codes "0") ∷ mark marks.Less ∷ name (codes "VOLUME") ∷ mark marks.LessOrEqual
    ∷ real (codes "1.E3") ∷ mark marks.CloseBrace ∷ [])
    (interval (literal (number (whole (codes "0")))) limits.Less (named_so (codes "VOLUME")) limits.LessOrEqual
    (literal (number (decimal (codes "1.E3")))))
an_interval = record { fits = (omega arith, tt, tt, tt); spelled = refl }

-- SELF\shape.label <> 'x'
an_attribute_of_a_supertype : IsExpression 0
    (keyword keywords.SelfWord ∷ mark marks.Backslash ∷ name (codes "SHAPE") ∷ mark marks.Dot ∷ name (codes "LABEL")
    ∷ mark marks.NotEqual ∷ string (codes "'x'") ∷ [])
    (comparison (reference own (group (codes "SHAPE") (codes "LABEL") plain)) relations.NotEqual
    (literal (text (codes "'x'"))))
an_attribute_of_a_supertype = record { fits = (omega arith, tt, tt); spelled = refl }

-- 'GEO.LEN_M' IN TYPEOF(SELF.volume)
a_type_of : IsExpression 0
    (string (codes "'GEO.LEN_M'") ∷ keyword keywords.In ∷ keyword keywords.Typeof ∷ mark marks.Open
    ∷ keyword keywords.SelfWord ∷ mark marks.Dot ∷ name (codes "VOLUME") ∷ mark marks.Close ∷ [])
    (comparison (literal (text (codes "'GEO.LEN_M'"))) relations.In
    (call functions.Typeof (reference own (attribute (codes "VOLUME") plain))))
a_type_of = record { fits = (omega arith, tt, (omega arith, tt)); spelled = refl }

-- SIZEOF(QUERY(r <* ratios | r <> 0.0)) > 0
a_query : IsExpression 0
    (keyword keywords.Sizeof ∷ mark marks.Open ∷ keyword keywords.Query ∷ mark marks.Open ∷ name (codes "R")
    ∷ mark marks.QuerySource ∷ name (codes "RATIOS") ∷ mark marks.Bar
    ∷ name (codes "R") ∷ mark marks.NotEqual ∷ real (codes "0.0") ∷ mark marks.Close ∷ mark marks.Close
    ∷ mark marks.Greater ∷ integer (codes "0") ∷ [])
    (comparison
    (call functions.Sizeof (query (codes "R") (named_so (codes "RATIOS"))
    (comparison (named_so (codes "R")) relations.NotEqual (literal (number (decimal (codes "0.0")))))))
    relations.Greater (literal (number (whole (codes "0")))))
a_query = record { fits = (omega arith, (omega arith, (omega arith, tt, (omega arith, tt, tt))), tt); spelled = refl }

-- - 1
a_sign_before_a_number : IsExpression 0 (mark marks.Minus ∷ integer (codes "1") ∷ [])
    (signed signs.Minus (whole (codes "1")))
a_sign_before_a_number = record { fits = omega arith; spelled = refl }

-- [1, 2]
an_aggregate : IsExpression 0
    (mark marks.OpenBracket ∷ integer (codes "1") ∷ mark marks.Comma ∷ integer (codes "2") ∷ mark marks.CloseBracket
    ∷ [])
    (aggregate (one (literal (number (whole (codes "1")))) (one (literal (number (whole (codes "2")))) none)))
an_aggregate = record { fits = (omega arith, (tt, (tt, tt))); spelled = refl }

-- a.b[1] = (NOT c)
an_element : IsExpression 0
    (name (codes "A") ∷ mark marks.Dot ∷ name (codes "B") ∷ mark marks.OpenBracket ∷ integer (codes "1")
    ∷ mark marks.CloseBracket ∷ mark marks.Equal
    ∷ mark marks.Open ∷ keyword keywords.Not ∷ name (codes "C") ∷ mark marks.Close ∷ [])
    (comparison (reference (named (codes "A"))
    (attribute (codes "B") (index (literal (number (whole (codes "1")))) plain))) relations.Equal
    (parenthesized (negation (named_so (codes "C")))))
an_element = record { fits = (omega arith, (omega arith, tt, tt), (omega arith, (omega arith, tt))); spelled = refl }

-- a = b = c
no_second_comparison : IsNone 0 (name (codes "A") ∷ mark marks.Equal ∷ name (codes "B") ∷ mark marks.Equal
    ∷ name (codes "C") ∷ [])
no_second_comparison = none_parsed 0 (name (codes "A") ∷ mark marks.Equal ∷ name (codes "B") ∷ mark marks.Equal
    ∷ name (codes "C") ∷ []) refl

-- a AND
nothing_behind_and : IsNone 0 (name (codes "A") ∷ keyword keywords.And ∷ [])
nothing_behind_and = none_parsed 0 (name (codes "A") ∷ keyword keywords.And ∷ []) refl

-- NOT NOT a
no_second_not : IsNone 0 (keyword keywords.Not ∷ keyword keywords.Not ∷ name (codes "A") ∷ [])
no_second_not = none_parsed 0 (keyword keywords.Not ∷ keyword keywords.Not ∷ name (codes "A") ∷ []) refl

-- - a
no_sign_before_a_name : IsNone 0 (mark marks.Minus ∷ name (codes "A") ∷ [])
no_sign_before_a_name = none_parsed 0 (mark marks.Minus ∷ name (codes "A") ∷ []) refl

-- 1 [2]
no_element_of_a_literal : IsNone 0 (integer (codes "1") ∷ mark marks.OpenBracket ∷ integer (codes "2")
    ∷ mark marks.CloseBracket ∷ [])
no_element_of_a_literal = none_parsed 0 (integer (codes "1") ∷ mark marks.OpenBracket ∷ integer (codes "2")
    ∷ mark marks.CloseBracket ∷ []) refl

-- a + b
no_sum : IsNone 0 (name (codes "A") ∷ mark marks.Plus ∷ name (codes "B") ∷ [])
no_sum = none_parsed 0 (name (codes "A") ∷ mark marks.Plus ∷ name (codes "B") ∷ []) refl

-- (a), where 63 brackets are open around it, and where 64 are
a_last_bracket : IsExpression 63 (mark marks.Open ∷ name (codes "A") ∷ mark marks.Close ∷ [])
    (parenthesized (named_so (codes "A")))
a_last_bracket = record { fits = (omega arith, tt); spelled = refl }

one_bracket_more : IsNone 64 (mark marks.Open ∷ name (codes "A") ∷ mark marks.Close ∷ [])
one_bracket_more = none_fits 64 (mark marks.Open ∷ name (codes "A") ∷ mark marks.Close ∷ [])
    (parenthesized (named_so (codes "A"))) refl
    (λ f. let k : 64 < 64 = f.0 in omega arith)
