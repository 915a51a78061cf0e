-- The parser gives back each tree that fits from its words.
use Rattle.std.proofs.Common.{◌≡◌, ℕ, zero, suc, ◌+◌, ◌<◌, ◌≤◌, List, [], ◌∷◌, ◌++◌, length, None, Some, refl, ap, ◌∙◌, append_assoc, arith, length-append}
use Rattle.express_lexer.specs.declared.marks.Mark.TheVariants as marks
use Rattle.express_syntax.specs.declared.keyword.Keyword.TheVariants as keywords
use Rattle.express_syntax.specs.declared.expression.Sign.{Sign}
use Rattle.express_syntax.specs.declared.expression.Sign.TheVariants as signs
use Rattle.express_syntax.specs.declared.expression.Logical.TheVariants as logicals
use Rattle.express_syntax.specs.declared.expression.Relation.{Relation}
use Rattle.express_syntax.specs.declared.expression.Relation.TheVariants as relations
use Rattle.express_syntax.specs.declared.expression.Limit.{Limit}
use Rattle.express_syntax.specs.declared.expression.Limit.TheVariants as limits
use Rattle.express_syntax.specs.declared.expression.Junction.{Junction}
use Rattle.express_syntax.specs.declared.expression.Junction.TheVariants as junctions
use Rattle.express_syntax.specs.declared.expression.Function.{Function}
use Rattle.express_syntax.specs.declared.expression.Function.TheVariants as functions
use Rattle.express_syntax.specs.Words.{Word, keyword, mark}
use Rattle.express_syntax.specs.Trees.{Number, whole, decimal, Literal, number, text, codes_of_text, bits, constant, indeterminate, Root, own, named, Tree, literal, signed, reference, parenthesized, aggregate, interval, query, call, nvl, negation, conjunction, disjunction, comparison, Trees, none, one, Alternatives, finish, another, Qualifiers, plain, attribute, group, index, word_of_literal, word_of_root, word_of_number, word_of_sign, word_of_relation, word_of_limit, word_of_junction, word_of_function, words, words_of_trees, words_of_others, words_of_alternatives, words_of_qualifiers}
use Rattle.express_syntax.specs.Grammar.{Level, primary, unary, term, simple, expression, level_rank, FitsLevel, FitsEach, FitsMore, FitsQualifiers}
use Rattle.express_syntax.specs.steps.Reads.{Stops}
use Rattle.express_syntax.proofs.Standing.{First, value, root, calling, denying, signing, first_of, conjunction_of, disjunction_of}
use Rattle.express_syntax.proofs.Parser.{bind, past_close, past_number, past_limit, relation_of, junction_of, Parser, more_by, elements_by, qualifiers_by, primary_from, primary_by, unary_from, unary_by, conjuncts_by, term_by, alternatives_by, alternatives_from, simple_by, comparison_by, comparison_from, expression_by, at_by, parser}
use Rattle.express_syntax.proofs.Stopping.{stops_any, stops_simple, stops_term, stops_to_term, stops_to_simple, stops_to_expression, no_relation, no_junction, conjuncts_behind, alternatives_behind, relation_behind, limit_behind, elements_behind}

-- each word is that of what it begins
pub first_of_literal : (l : Literal) → first_of (word_of_literal l) ≡ value l
first_of_literal (number (whole t)) = refl
first_of_literal (number (decimal t)) = refl
first_of_literal (text t) = refl
first_of_literal (codes_of_text t) = refl
first_of_literal (bits t) = refl
first_of_literal (constant logicals.False) = refl
first_of_literal (constant logicals.Unknown) = refl
first_of_literal (constant logicals.True) = refl
first_of_literal indeterminate = refl

pub first_of_root : (r : Root) → first_of (word_of_root r) ≡ root r
first_of_root own = refl
first_of_root (named n) = refl

pub first_of_function : (f : Function) → first_of (word_of_function f) ≡ calling f
first_of_function functions.Exists = refl
first_of_function functions.Sizeof = refl
first_of_function functions.Hiindex = refl
first_of_function functions.Loindex = refl
first_of_function functions.Typeof = refl

pub first_of_sign : (s : Sign) → first_of (word_of_sign s) ≡ signing s
first_of_sign signs.Plus = refl
first_of_sign signs.Minus = refl

past_number_is : (v : Number) (ws : List Word) → past_number (word_of_number v ∷ ws) ≡ Some (v, ws)
past_number_is (whole t) ws = refl
past_number_is (decimal t) ws = refl

past_limit_is : (l : Limit) (ws : List Word) → past_limit (word_of_limit l ∷ ws) ≡ Some (l, ws)
past_limit_is limits.Less ws = refl
past_limit_is limits.LessOrEqual ws = refl

pub relation_of_is : (r : Relation) → relation_of (word_of_relation r) ≡ Some r
relation_of_is relations.Equal = refl
relation_of_is relations.NotEqual = refl
relation_of_is relations.Less = refl
relation_of_is relations.Greater = refl
relation_of_is relations.LessOrEqual = refl
relation_of_is relations.GreaterOrEqual = refl
relation_of_is relations.In = refl

pub junction_of_is : (j : Junction) → junction_of (word_of_junction j) ≡ Some j
junction_of_is junctions.Or = refl
junction_of_is junctions.Xor = refl

-- from a level to the next
unary_up : (p : Parser) (f : First) (ws : List Word) (a : Tree × List Word) → primary_from p f ws ≡ Some a
    → unary_from p f ws ≡ Some a
unary_up p denying ws a e = absurd (cc)
unary_up p (signing s) ws a e = absurd (cc)
unary_up p _ ws a e = e

up_unary : (p : Parser) (ws : List Word) (a : Tree × List Word) → primary_by p ws ≡ Some a → unary_by p ws ≡ Some a
up_unary p [] a e = e
up_unary p (w ∷ ws) a e = unary_up p (first_of w) ws a e

no_conjuncts_by : (p : Parser) (r : List Word) → Stops term r → conjuncts_by p r ≡ Some (none, r)
no_conjuncts_by p [] s = refl
no_conjuncts_by p (keyword keywords.And ∷ r) s = absurd (cc)
no_conjuncts_by p (_ ∷ r) s = refl

up_term : (p : Parser) (ws : List Word) (x : Tree) (r : List Word) → unary_by p ws ≡ Some (x, r) → Stops term r
    → term_by p ws ≡ Some (x, r)
up_term p ws x r e s =
    ap (λ o. bind o (λ a. bind (conjuncts_by p a.1) (λ b. Some (conjunction_of a.0 b.0, b.1)))) e
    ∙ ap (λ o. bind o (λ b. Some (conjunction_of x b.0, b.1))) (no_conjuncts_by p r s)

no_alternatives_by : (p : Parser) (r : List Word) → Stops simple r → alternatives_by p r ≡ Some (finish, r)
no_alternatives_by p [] s = refl
no_alternatives_by p (w ∷ r) s = ap (λ o. alternatives_from p o w r) (no_junction w s)

up_simple : (p : Parser) (ws : List Word) (x : Tree) (r : List Word) → term_by p ws ≡ Some (x, r) → Stops simple r
    → simple_by p ws ≡ Some (x, r)
up_simple p ws x r e s =
    ap (λ o. bind o (λ a. bind (alternatives_by p a.1) (λ b. Some (disjunction_of a.0 b.0, b.1)))) e
    ∙ ap (λ o. bind o (λ b. Some (disjunction_of x b.0, b.1))) (no_alternatives_by p r s)

no_comparison_by : (p : Parser) (x : Tree) (r : List Word) → Stops expression r → comparison_by p x r ≡ Some (x, r)
no_comparison_by p x [] s = refl
no_comparison_by p x (w ∷ r) s = ap (λ o. comparison_from p x o w r) (no_relation w s)

up_expression : (p : Parser) (ws : List Word) (x : Tree) (r : List Word) → simple_by p ws ≡ Some (x, r)
    → Stops expression r → expression_by p ws ≡ Some (x, r)
up_expression p ws x r e s = ap (λ o. bind o (λ a. comparison_by p a.0 a.1)) e ∙ no_comparison_by p x r s

-- from any level to any higher one
from_simple : (p : Parser) (l : Level) (ws : List Word) (x : Tree) (r : List Word) → level_rank simple ≤ level_rank l
    → simple_by p ws ≡ Some (x, r) → Stops l r → at_by p l ws ≡ Some (x, r)
from_simple p primary ws x r k e s = absurd (omega arith)
from_simple p unary ws x r k e s = absurd (omega arith)
from_simple p term ws x r k e s = absurd (omega arith)
from_simple p simple ws x r k e s = e
from_simple p expression ws x r k e s = up_expression p ws x r e s

from_term : (p : Parser) (l : Level) (ws : List Word) (x : Tree) (r : List Word) → level_rank term ≤ level_rank l
    → term_by p ws ≡ Some (x, r) → Stops l r → at_by p l ws ≡ Some (x, r)
from_term p primary ws x r k e s = absurd (omega arith)
from_term p unary ws x r k e s = absurd (omega arith)
from_term p term ws x r k e s = e
from_term p simple ws x r k e s = up_simple p ws x r e s
from_term p expression ws x r k e s = from_simple p expression ws x r (omega arith)
    (up_simple p ws x r e (stops_simple r s)) s

from_unary : (p : Parser) (l : Level) (ws : List Word) (x : Tree) (r : List Word) → level_rank unary ≤ level_rank l
    → unary_by p ws ≡ Some (x, r) → Stops l r → at_by p l ws ≡ Some (x, r)
from_unary p primary ws x r k e s = absurd (omega arith)
from_unary p unary ws x r k e s = e
from_unary p term ws x r k e s = up_term p ws x r e s
from_unary p simple ws x r k e s = from_term p simple ws x r (omega arith) (up_term p ws x r e (stops_term r s)) s
from_unary p expression ws x r k e s = from_term p expression ws x r (omega arith)
    (up_term p ws x r e (stops_term r (stops_simple r s))) s

from_primary : (p : Parser) (l : Level) (ws : List Word) (x : Tree) (r : List Word) → primary_by p ws ≡ Some (x, r)
    → Stops l r → at_by p l ws ≡ Some (x, r)
from_primary p primary ws x r e s = e
from_primary p unary ws x r e s = up_unary p ws (x, r) e
from_primary p term ws x r e s = from_unary p term ws x r (omega arith) (up_unary p ws (x, r) e) s
from_primary p simple ws x r e s = from_unary p simple ws x r (omega arith) (up_unary p ws (x, r) e) s
from_primary p expression ws x r e s = from_unary p expression ws x r (omega arith) (up_unary p ws (x, r) e) s

from_expression : (p : Parser) (l : Level) (ws : List Word) (x : Tree) (r : List Word) → level_rank expression ≤ level_rank l
    → expression_by p ws ≡ Some (x, r) → at_by p l ws ≡ Some (x, r)
from_expression p primary ws x r k e = absurd (omega arith)
from_expression p unary ws x r k e = absurd (omega arith)
from_expression p term ws x r k e = absurd (omega arith)
from_expression p simple ws x r k e = absurd (omega arith)
from_expression p expression ws x r k e = e

-- what closes is behind the whole
pub behind : (a b r : List Word) (w : Word) → (a ++ w ∷ b) ++ r ≡ a ++ w ∷ (b ++ r)
behind a b r w = append_assoc a (w ∷ b) r

closing : {A : Type 0} (F : List Word → A) (a r : List Word) (w : Word) (out : A) → F (a ++ w ∷ r) ≡ out
    → F ((a ++ w ∷ []) ++ r) ≡ out
closing F a r w out e = ap F (behind a [] r w) ∙ e

-- the words of each primary, from those of its parts
parse_literal : (p : Parser) (l : Literal) (r : List Word) → primary_by p (word_of_literal l ∷ r) ≡ Some (literal l, r)
parse_literal p l r = ap (λ f. primary_from p f r) (first_of_literal l)

parse_reference : (p : Parser) (t : Root) (qs : Qualifiers) (r : List Word) → qualifiers_by p (words_of_qualifiers qs
    ++ r) ≡ Some (qs, r) → primary_by p (words (reference t qs) ++ r) ≡ Some (reference t qs, r)
parse_reference p t qs r e =
    ap (λ f. primary_from p f (words_of_qualifiers qs ++ r)) (first_of_root t)
    ∙ ap (λ o. bind o (λ a. Some (reference t a.0, a.1))) e

parse_parenthesized : (p : Parser) (z : Tree) (r : List Word) → p.at expression (words z ++ mark marks.Close ∷ r) ≡ Some
    (z, mark marks.Close ∷ r) → primary_by p (words (parenthesized z) ++ r) ≡ Some (parenthesized z, r)
parse_parenthesized p z r e =
    closing (λ v. bind (p.at expression v) (λ a. bind (past_close a.1) (λ vs. Some (parenthesized a.0, vs)))) (words z)
    r (mark marks.Close) (Some (parenthesized z, r))
    (ap (λ o. bind o (λ a. bind (past_close a.1) (λ vs. Some (parenthesized a.0, vs)))) e)

pub spread_two : (a b r : List Word) (v w : Word) → (a ++ v ∷ (b ++ w ∷ [])) ++ r ≡ a ++ v ∷ (b ++ w ∷ r)
spread_two a b r v w = simp append_assoc

pub spread_three : (a b c r : List Word) (u v w : Word) → (a ++ u ∷ (b ++ v ∷ (c ++ w ∷ []))) ++ r ≡ a ++ u
    ∷ (b ++ v ∷ (c ++ w ∷ r))
spread_three a b c r u v w = simp append_assoc

parse_interval : (p : Parser) (low : Tree) (above : Limit) (x : Tree) (below : Limit) (high : Tree) (r : List Word)
    → (let g : List Word = mark marks.CloseBrace ∷ r in let f : List Word = word_of_limit below ∷ (words high ++ g) in
    let e : List Word = word_of_limit above ∷ (words x ++ f) in
    p.at simple (words low ++ e) ≡ Some (low, e) → p.at simple (words x ++ f) ≡ Some (x, f)
    → p.at simple (words high ++ g) ≡ Some (high, g)
    → primary_by p (words (interval low above x below high) ++ r) ≡ Some (interval low above x below high, r))
parse_interval p low above x below high r a b c =
    rw (
      spread_three (words low) (words x) (words high) r (word_of_limit above) (word_of_limit below)
          (mark marks.CloseBrace),
      a,
      past_limit_is above (words x ++ word_of_limit below
          ∷ (words high ++ mark marks.CloseBrace ∷ r)),
      b,
      past_limit_is below (words high ++ mark marks.CloseBrace ∷ r),
      c,
    )
    refl

parse_query : (p : Parser) (v : List ℕ) (source condition : Tree) (r : List Word)
    → p.at simple (words source ++ mark marks.Bar ∷ (words condition ++ mark marks.Close ∷ r)) ≡ Some
    (source, mark marks.Bar ∷ (words condition ++ mark marks.Close ∷ r))
    → p.at expression (words condition ++ mark marks.Close ∷ r) ≡ Some (condition, mark marks.Close ∷ r)
    → primary_by p (words (query v source condition) ++ r) ≡ Some (query v source condition, r)
parse_query p v source condition r a b = rw (
  spread_two (words source) (words condition) r (mark marks.Bar)
      (mark marks.Close),
  a,
  b,
) refl

parse_call : (p : Parser) (f : Function) (x : Tree) (r : List Word) → p.at expression (words x ++ mark marks.Close
    ∷ r) ≡ Some (x, mark marks.Close ∷ r) → primary_by p (words (call f x) ++ r) ≡ Some (call f x, r)
parse_call p f x r a = rw (first_of_function f, behind (words x) [] r (mark marks.Close), a) refl

parse_nvl : (p : Parser) (x y : Tree) (r : List Word)
    → p.at expression (words x ++ mark marks.Comma ∷ (words y ++ mark marks.Close ∷ r)) ≡ Some (
      x,
      mark marks.Comma
          ∷ (words y ++ mark marks.Close ∷ r),
    )
    → p.at expression (words y ++ mark marks.Close ∷ r) ≡ Some (y, mark marks.Close ∷ r)
    → primary_by p (words (nvl x y) ++ r) ≡ Some (nvl x y, r)
parse_nvl p x y r a b = rw (spread_two (words x) (words y) r (mark marks.Comma) (mark marks.Close), a, b) refl

pub no_tree_at_close : (f : ℕ) (r : List Word) → (parser f).at expression (mark marks.CloseBracket ∷ r) ≡ None
no_tree_at_close zero r = refl
no_tree_at_close (suc f) r = refl

parse_no_elements : (f : ℕ) (r : List Word) → elements_by (parser f) (mark marks.CloseBracket ∷ r) ≡ Some (none, r)
parse_no_elements f r = rw (no_tree_at_close f r) refl

parse_elements : (p : Parser) (x : Tree) (xs : Trees) (r : List Word)
    → p.at expression (words x ++ (words_of_others (mark marks.Comma) xs ++ mark marks.CloseBracket ∷ r)) ≡ Some
    (x, words_of_others (mark marks.Comma) xs ++ mark marks.CloseBracket ∷ r)
    → p.more (words_of_others (mark marks.Comma) xs ++ mark marks.CloseBracket ∷ r) ≡ Some (xs, r)
    → elements_by p (words_of_trees (one x xs) ++ mark marks.CloseBracket ∷ r) ≡ Some (one x xs, r)
parse_elements p x xs r a b = rw (
  append_assoc (words x) (words_of_others (mark marks.Comma) xs)
      (mark marks.CloseBracket ∷ r),
  a,
  b,
) refl

parse_aggregate : (p : Parser) (xs : Trees) (r : List Word)
    → elements_by p (words_of_trees xs ++ mark marks.CloseBracket ∷ r) ≡ Some (xs, r)
    → primary_by p (words (aggregate xs) ++ r) ≡ Some (aggregate xs, r)
parse_aggregate p xs r e = ap (λ v. bind (elements_by p v) (λ a. Some (aggregate a.0, a.1)))
    (behind (words_of_trees xs) [] r (mark marks.CloseBracket)) ∙ ap (λ o. bind o (λ a. Some (aggregate a.0, a.1))) e

parse_negation : (p : Parser) (x : Tree) (r : List Word) → p.at primary (words x ++ r) ≡ Some (x, r)
    → unary_by p (words (negation x) ++ r) ≡ Some (negation x, r)
parse_negation p x r a = rw a refl

parse_signed : (p : Parser) (s : Sign) (v : Number) (r : List Word) → unary_by p (words (signed s v) ++ r) ≡ Some
    (signed s v, r)
parse_signed p s v r = rw (first_of_sign s, past_number_is v r) refl

parse_conjunction : (p : Parser) (x y : Tree) (ys : Trees) (r : List Word)
    → unary_by p (words x ++ (words_of_others (keyword keywords.And) (one y ys) ++ r)) ≡ Some
    (x, words_of_others (keyword keywords.And) (one y ys) ++ r)
    → conjuncts_by p (words_of_others (keyword keywords.And) (one y ys) ++ r) ≡ Some (one y ys, r)
    → term_by p (words (conjunction x (one y ys)) ++ r) ≡ Some (conjunction x (one y ys), r)
parse_conjunction p x y ys r a b = rw (
  append_assoc (words x) (words_of_others (keyword keywords.And) (one y ys)) r,
  a,
  b,
) refl

parse_conjunct : (p : Parser) (y : Tree) (ys : Trees) (r : List Word)
    → p.at unary (words y ++ (words_of_others (keyword keywords.And) ys ++ r)) ≡ Some
    (y, words_of_others (keyword keywords.And) ys ++ r)
    → p.conjuncts (words_of_others (keyword keywords.And) ys ++ r) ≡ Some (ys, r)
    → conjuncts_by p (words_of_others (keyword keywords.And) (one y ys) ++ r) ≡ Some (one y ys, r)
parse_conjunct p y ys r a b = rw (append_assoc (words y) (words_of_others (keyword keywords.And) ys) r, a, b) refl

parse_disjunction : (p : Parser) (x : Tree) (j : Junction) (y : Tree) (ys : Alternatives) (r : List Word)
    → term_by p (words x ++ (words_of_alternatives (another j y ys) ++ r)) ≡ Some
    (x, words_of_alternatives (another j y ys) ++ r)
    → alternatives_by p (words_of_alternatives (another j y ys) ++ r) ≡ Some (another j y ys, r)
    → simple_by p (words (disjunction x (another j y ys)) ++ r) ≡ Some (disjunction x (another j y ys), r)
parse_disjunction p x j y ys r a b = rw (append_assoc (words x) (words_of_alternatives (another j y ys)) r, a, b) refl

parse_alternative : (p : Parser) (j : Junction) (y : Tree) (ys : Alternatives) (r : List Word)
    → p.at term (words y ++ (words_of_alternatives ys ++ r)) ≡ Some (y, words_of_alternatives ys ++ r)
    → p.alternatives (words_of_alternatives ys ++ r) ≡ Some (ys, r)
    → alternatives_by p (words_of_alternatives (another j y ys) ++ r) ≡ Some (another j y ys, r)
parse_alternative p j y ys r a b = rw (junction_of_is j, append_assoc (words y) (words_of_alternatives ys) r, a, b) refl

parse_comparison : (p : Parser) (x : Tree) (t : Relation) (y : Tree) (r : List Word)
    → simple_by p (words x ++ word_of_relation t ∷ (words y ++ r)) ≡ Some (x, word_of_relation t ∷ (words y ++ r))
    → p.at simple (words y ++ r) ≡ Some (y, r)
    → expression_by p (words (comparison x t y) ++ r) ≡ Some (comparison x t y, r)
parse_comparison p x t y r a b = rw (behind (words x) (words y) r (word_of_relation t), a, relation_of_is t, b) refl

parse_more : (p : Parser) (y : Tree) (ys : Trees) (r : List Word)
    → p.at expression (words y ++ (words_of_others (mark marks.Comma) ys ++ mark marks.CloseBracket ∷ r)) ≡ Some
    (y, words_of_others (mark marks.Comma) ys ++ mark marks.CloseBracket ∷ r)
    → p.more (words_of_others (mark marks.Comma) ys ++ mark marks.CloseBracket ∷ r) ≡ Some (ys, r)
    → more_by p (words_of_others (mark marks.Comma) (one y ys) ++ mark marks.CloseBracket ∷ r) ≡ Some (one y ys, r)
parse_more p y ys r a b = rw (
  append_assoc (words y) (words_of_others (mark marks.Comma) ys) (mark marks.CloseBracket
      ∷ r),
  a,
  b,
) refl

no_qualifiers_by : (p : Parser) (r : List Word) → Stops primary r → qualifiers_by p r ≡ Some (plain, r)
no_qualifiers_by p [] s = refl
no_qualifiers_by p (mark marks.Dot ∷ r) s = absurd (cc)
no_qualifiers_by p (mark marks.Backslash ∷ r) s = absurd (cc)
no_qualifiers_by p (mark marks.OpenBracket ∷ r) s = absurd (cc)
no_qualifiers_by p (_ ∷ r) s = refl

parse_attribute : (p : Parser) (a : List ℕ) (qs : Qualifiers) (r : List Word)
    → p.qualifiers (words_of_qualifiers qs ++ r) ≡ Some (qs, r) → qualifiers_by p (words_of_qualifiers (attribute a qs)
    ++ r) ≡ Some (attribute a qs, r)
parse_attribute p a qs r e = rw e refl

parse_group : (p : Parser) (e a : List ℕ) (qs : Qualifiers) (r : List Word)
    → p.qualifiers (words_of_qualifiers qs ++ r) ≡ Some (qs, r) → qualifiers_by p (words_of_qualifiers (group e a qs)
    ++ r) ≡ Some (group e a qs, r)
parse_group p e a qs r h = rw h refl

parse_index : (p : Parser) (x : Tree) (qs : Qualifiers) (r : List Word)
    → p.at simple (words x ++ mark marks.CloseBracket ∷ (words_of_qualifiers qs ++ r)) ≡ Some
    (x, mark marks.CloseBracket ∷ (words_of_qualifiers qs ++ r))
    → p.qualifiers (words_of_qualifiers qs ++ r) ≡ Some (qs, r)
    → qualifiers_by p (words_of_qualifiers (index x qs) ++ r) ≡ Some (index x qs, r)
parse_index p x qs r a b = rw (behind (words x) (words_of_qualifiers qs) r (mark marks.CloseBracket), a, b) refl

mutual
  pub reads : (x : Tree) (n : ℕ) (l : Level) (r : List Word) (f : ℕ) → FitsLevel n l x → Stops l r → length (words x) < f
      → (parser f).at l (words x ++ r) ≡ Some (x, r)
  reads x n l r zero fits s h = absurd (omega arith)
  reads (literal v) n l r (suc f) fits s h = from_primary (parser f) l (word_of_literal v ∷ r) (literal v) r
      (parse_literal (parser f) v r) s
  reads (signed t v) n l r (suc f) fits s h = from_unary (parser f) l (words (signed t v) ++ r) (signed t v) r fits
      (parse_signed (parser f) t v r) s
  reads (reference t qs) n l r (suc f) fits s h = from_primary (parser f) l (words (reference t qs) ++ r)
      (reference t qs) r (parse_reference (parser f) t qs r (reads_qualifiers qs n r (suc f) fits (stops_any l r s)
      (omega arith))) s
  reads (parenthesized x) n l r (suc f) fits s h =
      from_primary (parser f) l (words (parenthesized x) ++ r) (parenthesized x) r
      (parse_parenthesized (parser f) x r (reads x (n + 1) expression (mark marks.Close ∷ r) f fits.1 refl
      (omega (arith, length-append {A = Word})))) s
  reads (aggregate xs) n l r (suc f) fits s h =
      from_primary (parser f) l (words (aggregate xs) ++ r) (aggregate xs) r
      (parse_aggregate (parser f) xs r (reads_elements xs (n + 1) r f fits.1 (omega (arith, length-append {A = Word}))))
      s
  reads (interval low above x below high) n l r (suc f) fits s h =
      let g : List Word = mark marks.CloseBrace ∷ r in
      let c : List Word = word_of_limit below ∷ (words high ++ g) in
      let b : List Word = word_of_limit above ∷ (words x ++ c) in
      from_primary (parser f) l (words (interval low above x below high) ++ r) (interval low above x below high) r
      (parse_interval (parser f) low above x below high r
      (reads low (n + 1) simple b f fits.1 (limit_behind above) (omega (arith, length-append {A = Word})))
      (reads x (n + 1) simple c f fits.2 (limit_behind below) (omega (arith, length-append {A = Word})))
      (reads high (n + 1) simple g f fits.3 refl (omega (arith, length-append {A = Word})))) s
  reads (query v source condition) n l r (suc f) fits s h =
      from_primary (parser f) l (words (query v source condition) ++ r) (query v source condition) r
      (parse_query (parser f) v source condition r
      (reads source (n + 1) simple (mark marks.Bar ∷ (words condition ++ mark marks.Close ∷ r)) f fits.1 refl
      (omega (arith, length-append {A = Word})))
      (reads condition (n + 1) expression (mark marks.Close ∷ r) f fits.2 refl
      (omega (arith, length-append {A = Word})))) s
  reads (call t x) n l r (suc f) fits s h =
      from_primary (parser f) l (words (call t x) ++ r) (call t x) r
      (parse_call (parser f) t x r (reads x (n + 1) expression (mark marks.Close ∷ r) f fits.1 refl
      (omega (arith, length-append {A = Word})))) s
  reads (nvl x y) n l r (suc f) fits s h =
      from_primary (parser f) l (words (nvl x y) ++ r) (nvl x y) r
      (parse_nvl (parser f) x y r
      (reads x (n + 1) expression (mark marks.Comma ∷ (words y ++ mark marks.Close ∷ r)) f fits.1 refl
      (omega (arith, length-append {A = Word})))
      (reads y (n + 1) expression (mark marks.Close ∷ r) f fits.2 refl (omega (arith, length-append {A = Word})))) s
  reads (negation x) n l r (suc f) fits s h =
      from_unary (parser f) l (words (negation x) ++ r) (negation x) r fits.0
      (parse_negation (parser f) x r (reads x n primary r f fits.1 (stops_any l r s) (omega arith))) s
  reads (conjunction x none) n l r (suc f) fits s h = absurd fits.2
  reads (conjunction x (one y ys)) n l r (suc f) fits s h =
      let e : Stops term r = stops_to_term l r fits.0 s in
      from_term (parser f) l (words (conjunction x (one y ys)) ++ r) (conjunction x (one y ys)) r fits.0
      (parse_conjunction (parser f) x y ys r
      (reads x n unary (words_of_others (keyword keywords.And) (one y ys) ++ r) (suc f) fits.1 refl
      (omega (arith, length-append {A = Word})))
      (reads_conjuncts (one y ys) n r (suc f) fits.2 e (omega (arith, length-append {A = Word})))) s
  reads (disjunction x finish) n l r (suc f) fits s h = absurd fits.2
  reads (disjunction x (another j y ys)) n l r (suc f) fits s h =
      let e : Stops simple r = stops_to_simple l r fits.0 s in
      from_simple (parser f) l (words (disjunction x (another j y ys)) ++ r) (disjunction x (another j y ys)) r fits.0
      (parse_disjunction (parser f) x j y ys r
      (reads x n term (words_of_alternatives (another j y ys) ++ r) (suc f) fits.1
      (alternatives_behind (another j y ys) r e) (omega (arith, length-append {A = Word})))
      (reads_alternatives (another j y ys) n r (suc f) fits.2 e (omega (arith, length-append {A = Word})))) s
  reads (comparison x t y) n l r (suc f) fits s h =
      let e : Stops expression r = stops_to_expression l r fits.0 s in
      from_expression (parser f) l (words (comparison x t y) ++ r) (comparison x t y) r fits.0
      (parse_comparison (parser f) x t y r
      (reads x n simple (word_of_relation t ∷ (words y ++ r)) (suc f) fits.1 (relation_behind t)
      (omega (arith, length-append {A = Word})))
      (reads y n simple r f fits.2 (stops_simple r e) (omega (arith, length-append {A = Word}))))

  pub reads_conjuncts : (xs : Trees) (n : ℕ) (r : List Word) (f : ℕ) → FitsEach n unary xs → Stops term r
      → length (words_of_others (keyword keywords.And) xs) < f
      → (parser f).conjuncts (words_of_others (keyword keywords.And) xs ++ r) ≡ Some (xs, r)
  reads_conjuncts xs n r zero fits s h = absurd (omega arith)
  reads_conjuncts none n r (suc f) fits s h = no_conjuncts_by (parser f) r s
  reads_conjuncts (one y ys) n r (suc f) fits s h =
      parse_conjunct (parser f) y ys r
      (reads y n unary (words_of_others (keyword keywords.And) ys ++ r) f fits.0 (conjuncts_behind ys r s)
      (omega (arith, length-append {A = Word})))
      (reads_conjuncts ys n r f fits.1 s (omega (arith, length-append {A = Word})))

  pub reads_elements : (xs : Trees) (n : ℕ) (r : List Word) (f : ℕ) → FitsEach n expression xs
      → length (words_of_trees xs) < f → elements_by (parser f) (words_of_trees xs ++ mark marks.CloseBracket
      ∷ r) ≡ Some (xs, r)
  reads_elements none n r f fits h = parse_no_elements f r
  reads_elements (one x xs) n r f fits h =
      parse_elements (parser f) x xs r
      (reads x n expression (words_of_others (mark marks.Comma) xs ++ mark marks.CloseBracket ∷ r) f fits.0
      (elements_behind xs r) (omega (arith, length-append {A = Word})))
      (reads_more xs n r f fits.1 (omega (arith, length-append {A = Word})))

  pub reads_more : (xs : Trees) (n : ℕ) (r : List Word) (f : ℕ) → FitsEach n expression xs
      → length (words_of_others (mark marks.Comma) xs) < f → (parser f).more (words_of_others (mark marks.Comma) xs
      ++ mark marks.CloseBracket ∷ r) ≡ Some (xs, r)
  reads_more xs n r zero fits h = absurd (omega arith)
  reads_more none n r (suc f) fits h = refl
  reads_more (one y ys) n r (suc f) fits h =
      parse_more (parser f) y ys r
      (reads y n expression (words_of_others (mark marks.Comma) ys ++ mark marks.CloseBracket ∷ r) f fits.0
      (elements_behind ys r) (omega (arith, length-append {A = Word})))
      (reads_more ys n r f fits.1 (omega (arith, length-append {A = Word})))

  pub reads_alternatives : (xs : Alternatives) (n : ℕ) (r : List Word) (f : ℕ) → FitsMore n xs → Stops simple r
      → length (words_of_alternatives xs) < f → (parser f).alternatives (words_of_alternatives xs ++ r) ≡ Some (xs, r)
  reads_alternatives xs n r zero fits s h = absurd (omega arith)
  reads_alternatives finish n r (suc f) fits s h = no_alternatives_by (parser f) r s
  reads_alternatives (another j y ys) n r (suc f) fits s h =
      parse_alternative (parser f) j y ys r
      (reads y n term (words_of_alternatives ys ++ r) f fits.0 (alternatives_behind ys r s)
      (omega (arith, length-append {A = Word})))
      (reads_alternatives ys n r f fits.1 s (omega (arith, length-append {A = Word})))

  pub reads_qualifiers : (qs : Qualifiers) (n : ℕ) (r : List Word) (f : ℕ) → FitsQualifiers n qs → Stops primary r
      → length (words_of_qualifiers qs) < f → (parser f).qualifiers (words_of_qualifiers qs ++ r) ≡ Some (qs, r)
  reads_qualifiers qs n r zero fits s h = absurd (omega arith)
  reads_qualifiers plain n r (suc f) fits s h = no_qualifiers_by (parser f) r s
  reads_qualifiers (attribute a qs) n r (suc f) fits s h = parse_attribute (parser f) a qs r
      (reads_qualifiers qs n r f fits s (omega arith))
  reads_qualifiers (group e a qs) n r (suc f) fits s h = parse_group (parser f) e a qs r
      (reads_qualifiers qs n r f fits s (omega arith))
  reads_qualifiers (index x qs) n r (suc f) fits s h =
      parse_index (parser f) x qs r
      (reads x (n + 1) simple (mark marks.CloseBracket ∷ (words_of_qualifiers qs ++ r)) f fits.1 refl
      (omega (arith, length-append {A = Word})))
      (reads_qualifiers qs n r f fits.2 s (omega (arith, length-append {A = Word})))
