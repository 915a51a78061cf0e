-- What ends a tree at a level.
use Rattle.std.proofs.Common.{◌≡◌, ◌≤◌, false, List, [], ◌∷◌, ◌++◌, None, refl, arith}
use Rattle.express_lexer.specs.declared.marks.Mark.TheVariants as marks
use Rattle.express_syntax.specs.declared.keyword.Keyword.TheVariants as keywords
use Rattle.express_syntax.specs.declared.expression.Relation.{Relation}
use Rattle.express_syntax.specs.declared.expression.Relation.TheVariants as relations
use Rattle.express_syntax.specs.declared.expression.Limit.{Limit}
use Rattle.express_syntax.specs.declared.expression.Limit.TheVariants as limits
use Rattle.express_syntax.specs.declared.expression.Junction.{Junction}
use Rattle.express_syntax.specs.declared.expression.Junction.TheVariants as junctions
use Rattle.express_syntax.specs.Words.{Word, keyword, mark}
use Rattle.express_syntax.specs.Trees.{Trees, none, one, Alternatives, finish, another, word_of_relation, word_of_limit, word_of_junction, words_of_others, words_of_alternatives}
use Rattle.express_syntax.specs.Grammar.{Level, primary, unary, term, simple, expression, level_rank}
use Rattle.express_syntax.specs.steps.Reads.{goes_on, Stops}
use Rattle.express_syntax.proofs.Parser.{relation_of, junction_of}

-- what ends a level ends those below it
unary_narrows : (w : Word) → goes_on unary w ≡ false → goes_on primary w ≡ false
unary_narrows (mark marks.Dot) h = h
unary_narrows (mark marks.Backslash) h = h
unary_narrows (mark marks.OpenBracket) h = h
unary_narrows _ h = refl

term_narrows : (w : Word) → goes_on term w ≡ false → goes_on unary w ≡ false
term_narrows (mark marks.Dot) h = h
term_narrows (mark marks.Backslash) h = h
term_narrows (mark marks.OpenBracket) h = h
term_narrows _ h = refl

simple_narrows : (w : Word) → goes_on simple w ≡ false → goes_on term w ≡ false
simple_narrows (mark marks.Dot) h = h
simple_narrows (mark marks.Backslash) h = h
simple_narrows (mark marks.OpenBracket) h = h
simple_narrows (keyword keywords.And) h = h
simple_narrows _ h = refl

expression_narrows : (w : Word) → goes_on expression w ≡ false → goes_on simple w ≡ false
expression_narrows (mark marks.Dot) h = h
expression_narrows (mark marks.Backslash) h = h
expression_narrows (mark marks.OpenBracket) h = h
expression_narrows (keyword keywords.And) h = h
expression_narrows (keyword keywords.Or) h = h
expression_narrows (keyword keywords.Xor) h = h
expression_narrows _ h = refl

-- nothing goes on with a unary that doesn't with a primary
unary_as_primary : (w : Word) → goes_on primary w ≡ false → goes_on unary w ≡ false
unary_as_primary (mark marks.Dot) h = h
unary_as_primary (mark marks.Backslash) h = h
unary_as_primary (mark marks.OpenBracket) h = h
unary_as_primary _ h = refl

pub unary_stops : (r : List Word) → Stops primary r → Stops unary r
unary_stops [] s = tt
unary_stops (w ∷ r) s = unary_as_primary w s

pub stops_primary : (r : List Word) → Stops unary r → Stops primary r
stops_primary [] s = tt
stops_primary (w ∷ r) s = unary_narrows w s

pub stops_unary : (r : List Word) → Stops term r → Stops unary r
stops_unary [] s = tt
stops_unary (w ∷ r) s = term_narrows w s

pub stops_term : (r : List Word) → Stops simple r → Stops term r
stops_term [] s = tt
stops_term (w ∷ r) s = simple_narrows w s

pub stops_simple : (r : List Word) → Stops expression r → Stops simple r
stops_simple [] s = tt
stops_simple (w ∷ r) s = expression_narrows w s

pub stops_any : (l : Level) (r : List Word) → Stops l r → Stops primary r
stops_any primary r s = s
stops_any unary r s = stops_primary r s
stops_any term r s = stops_primary r (stops_unary r s)
stops_any simple r s = stops_primary r (stops_unary r (stops_term r s))
stops_any expression r s = stops_primary r (stops_unary r (stops_term r (stops_simple r s)))

pub stops_to_term : (l : Level) (r : List Word) → level_rank term ≤ level_rank l → Stops l r → Stops term r
stops_to_term primary r k s = absurd (omega arith)
stops_to_term unary r k s = absurd (omega arith)
stops_to_term term r k s = s
stops_to_term simple r k s = stops_term r s
stops_to_term expression r k s = stops_term r (stops_simple r s)

pub stops_to_simple : (l : Level) (r : List Word) → level_rank simple ≤ level_rank l → Stops l r → Stops simple r
stops_to_simple primary r k s = absurd (omega arith)
stops_to_simple unary r k s = absurd (omega arith)
stops_to_simple term r k s = absurd (omega arith)
stops_to_simple simple r k s = s
stops_to_simple expression r k s = stops_simple r s

pub stops_to_expression : (l : Level) (r : List Word) → level_rank expression ≤ level_rank l → Stops l r → Stops expression r
stops_to_expression primary r k s = absurd (omega arith)
stops_to_expression unary r k s = absurd (omega arith)
stops_to_expression term r k s = absurd (omega arith)
stops_to_expression simple r k s = absurd (omega arith)
stops_to_expression expression r k s = s

pub no_relation : (w : Word) → goes_on expression w ≡ false → relation_of w ≡ None
no_relation (mark marks.Equal) h = absurd (cc)
no_relation (mark marks.NotEqual) h = absurd (cc)
no_relation (mark marks.Less) h = absurd (cc)
no_relation (mark marks.Greater) h = absurd (cc)
no_relation (mark marks.LessOrEqual) h = absurd (cc)
no_relation (mark marks.GreaterOrEqual) h = absurd (cc)
no_relation (keyword keywords.In) h = absurd (cc)
no_relation _ h = refl

pub no_junction : (w : Word) → goes_on simple w ≡ false → junction_of w ≡ None
no_junction (keyword keywords.Or) h = absurd (cc)
no_junction (keyword keywords.Xor) h = absurd (cc)
no_junction _ h = refl

-- what is behind a part of a tree ends it
pub conjuncts_behind : (xs : Trees) (r : List Word) → Stops term r
    → Stops unary (words_of_others (keyword keywords.And) xs ++ r)
conjuncts_behind none r s = stops_unary r s
conjuncts_behind (one x xs) r s = refl

junction_behind : (j : Junction) → goes_on term (word_of_junction j) ≡ false
junction_behind junctions.Or = refl
junction_behind junctions.Xor = refl

pub alternatives_behind : (xs : Alternatives) (r : List Word) → Stops simple r
    → Stops term (words_of_alternatives xs ++ r)
alternatives_behind finish r s = stops_term r s
alternatives_behind (another j x xs) r s = junction_behind j

pub relation_behind : (r : Relation) → goes_on simple (word_of_relation r) ≡ false
relation_behind relations.Equal = refl
relation_behind relations.NotEqual = refl
relation_behind relations.Less = refl
relation_behind relations.Greater = refl
relation_behind relations.LessOrEqual = refl
relation_behind relations.GreaterOrEqual = refl
relation_behind relations.In = refl

pub limit_behind : (l : Limit) → goes_on simple (word_of_limit l) ≡ false
limit_behind limits.Less = refl
limit_behind limits.LessOrEqual = refl

pub elements_behind : (xs : Trees) (r : List Word) → Stops expression (words_of_others (mark marks.Comma) xs
    ++ mark marks.CloseBracket ∷ r)
elements_behind none r = refl
elements_behind (one x xs) r = refl
