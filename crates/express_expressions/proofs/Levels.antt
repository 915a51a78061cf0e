-- What stands at a level of the grammar, by what stands at the level below.
use Rattle.std.proofs.Common.{◌≡◌, ℕ, ◌<◌, inl, inr, Bool, false, ◌==◌, List, [], ◌∷◌, ◌++◌, length, refl, sym, ap, ◌∙◌, subst, append_assoc, append-nil, map, drop, length-drop, arith}
use Rattle.std.proofs.lemmas.Bool.Decides.{nat_tests}
use Rattle.express_syntax.specs.declared.keyword.Keyword.TheVariants as keywords
use Rattle.express_syntax.specs.declared.expression.Sign.{Sign}
use Rattle.express_syntax.specs.declared.expression.Relation.{Relation}
use Rattle.express_syntax.specs.Words.{Word, word_of, keyword}
use Rattle.express_syntax.specs.Trees.{Tree, negation, conjunction, disjunction, comparison, Trees, none, one, Alternatives, finish, another, words, words_of_others, words_of_alternatives, word_of_sign, word_of_relation}
use Rattle.express_syntax.specs.Grammar.{primary, unary, term, simple, expression, IsNone}
use Rattle.express_syntax.specs.steps.Reads.{Stops, Stands, StandsNone}
use Rattle.express_expressions.specs.steps.Pieces.{words_from, Lacks, Others, OthersNone, More, MoreNone, conjoined, disjoined}
use Rattle.express_syntax.specs.declared.lexeme.Lexeme.{Lexeme}
use Rattle.express_syntax.specs.declared.expression.Expr.{Expr}
use Rattle.express_syntax.specs.declared.expression.Alternative.{Alternative}
use Rattle.express_syntax.specs.ExpressionViews.{Choice, choice, choice_of, choices_of, trees_of, alternatives_of}
use Rattle.std.proofs.lemmas.List.{length-map}
use Rattle.express_expressions.proofs.Parts.{expression_parts, fits_up, primary_stops, related, simple_parts, simple_stops, stands_along, stands_behind, stands_same, term_parts, unary_parts}

-- an expression
pub expression_none : (n : ℕ) (ws : List Word) → StandsNone n simple ws → StandsNone n expression ws
expression_none n ws e y rest h =
    elim (expression_parts n ws y rest h) [
      | inl a ↦ e y rest a
      | inr b ↦ e b.left (word_of_relation b.relation ∷ b.more)
          b.left_stands
    ]

pub expression_alone : (n : ℕ) (ws : List Word) (x : Tree) (rest : List Word) → Stands n simple ws x rest
    → ((r : Relation) → Lacks (word_of_relation r) rest) → Stands n expression ws x rest
expression_alone n ws x rest h l = record {
  fits = fits_up n simple expression x (omega arith) h.fits;
  spelled = h.spelled;
  whole = simple_stops rest h.whole l;
}

-- what stands before a relation is no expression by itself
not_alone : (n : ℕ) (r : Relation) (y : Tree) (rest more : List Word) → Stops expression rest → rest ≡ word_of_relation
    r ∷ more → ⊥
not_alone n r y rest more h e = related r (let P : List Word → Type 0 = Stops expression in subst P e h)

compared_with : (n : ℕ) (ws : List Word) (x : Tree) (r : Relation) (more : List Word) (y : Tree) (rest : List Word)
    → Stands n simple ws x (word_of_relation r ∷ more) → Stands n expression ws y rest → (z : Tree)
    × Stands n simple more z rest
compared_with n ws x r more y rest a h =
    elim (expression_parts n ws y rest h) [
      | inl b ↦ absurd (not_alone n r y rest more h.whole (sym (stands_same a b).1))
      | inr b ↦ let e : word_of_relation r ∷ more ≡ word_of_relation b.relation ∷ b.more =
          (stands_same a b.left_stands).1 in let f : b.more ≡ more = cc in (b.right, stands_along f b.right_stands)
    ]

pub expression_half : (n : ℕ) (ws : List Word) (x : Tree) (rest : List Word) (r : Relation) (more : List Word)
    → Stands n simple ws x rest → rest ≡ word_of_relation r ∷ more → StandsNone n simple more → StandsNone n expression
    ws
expression_half n ws x rest r more a e f y s h = let p = compared_with n ws x r more y s (stands_behind e a) h in
    f p.0 s p.1

pub expression_twice : (n : ℕ) (ws : List Word) (x : Tree) (rest : List Word) (r : Relation) (more : List Word)
    (z : Tree) (end : List Word) (q : Relation) (further : List Word) → Stands n simple ws x rest
    → rest ≡ word_of_relation r ∷ more → Stands n simple more z end → end ≡ word_of_relation q ∷ further
    → StandsNone n expression ws
expression_twice n ws x rest r more z end q further a e b f y s h =
    let p = compared_with n ws x r more y s (stands_behind e a) h in not_alone n q y s further h.whole
    (sym (stands_same b p.1).1 ∙ f)

pub expression_done : (n : ℕ) (ws : List Word) (x : Tree) (rest : List Word) (r : Relation) (more : List Word)
    (z : Tree) (end : List Word) → Stands n simple ws x rest → rest ≡ word_of_relation r ∷ more
    → Stands n simple more z end → ((q : Relation) → Lacks (word_of_relation q) end)
    → Stands n expression ws (comparison x r z) end
expression_done n ws x rest r more z end a e b l = record {
  fits = (omega arith, a.fits, b.fits);
  spelled = a.spelled ∙ ap (λ t. words x ++ t) (e ∙ ap (λ t. word_of_relation r ∷ t) b.spelled)
      ∙ sym (append_assoc (words x) (word_of_relation r ∷ words z) end);
  whole = simple_stops end b.whole l;
}

-- a simple expression
pub simple_none : (n : ℕ) (ws : List Word) → StandsNone n term ws → StandsNone n simple ws
simple_none n ws e y rest h = let p = simple_parts n ws y rest h in e p.first p.middle p.first_stands

more_along : {n : ℕ} {ws vs rest : List Word} {xs : Alternatives} → ws ≡ vs → More n ws xs rest → More n vs xs rest
more_along {n} {ws} {vs} {rest} {xs} e h = record { fits = h.fits; spelled = sym e ∙ h.spelled; whole = h.whole }

pub simple_half : (n : ℕ) (ws : List Word) (x : Tree) (middle : List Word) → Stands n term ws x middle
    → MoreNone n middle → StandsNone n simple ws
simple_half n ws x middle a f y rest h = let p = simple_parts n ws y rest h in
    f p.others rest (more_along (stands_same p.first_stands a).1 p.others_stand)

pub simple_done : (n : ℕ) (ws : List Word) (x : Tree) (middle : List Word) (xs : Alternatives) (rest : List Word)
    → Stands n term ws x middle → More n middle xs rest → Stands n simple ws (disjoined x xs) rest
simple_done n ws x middle finish rest a b = record {
  fits = fits_up n term simple x (omega arith) a.fits;
  spelled = a.spelled ∙ ap (λ t. words x ++ t) b.spelled;
  whole = b.whole;
}
simple_done n ws x middle (another j y ys) rest a b = record {
  fits = (omega arith, a.fits, b.fits);
  spelled = a.spelled ∙ ap (λ t. words x ++ t) b.spelled
      ∙ sym (append_assoc (words x) (words_of_alternatives (another j y ys)) rest);
  whole = b.whole;
}

-- a term
pub term_none : (n : ℕ) (ws : List Word) → StandsNone n unary ws → StandsNone n term ws
term_none n ws e y rest h = let p = term_parts n ws y rest h in e p.first p.middle p.first_stands

others_along : {n : ℕ} {ws vs rest : List Word} {xs : Trees} → ws ≡ vs → Others n ws xs rest → Others n vs xs rest
others_along {n} {ws} {vs} {rest} {xs} e h = record { fits = h.fits; spelled = sym e ∙ h.spelled; whole = h.whole }

pub term_half : (n : ℕ) (ws : List Word) (x : Tree) (middle : List Word) → Stands n unary ws x middle
    → OthersNone n middle → StandsNone n term ws
term_half n ws x middle a f y rest h = let p = term_parts n ws y rest h in
    f p.others rest (others_along (stands_same p.first_stands a).1 p.others_stand)

pub term_done : (n : ℕ) (ws : List Word) (x : Tree) (middle : List Word) (xs : Trees) (rest : List Word)
    → Stands n unary ws x middle → Others n middle xs rest → Stands n term ws (conjoined x xs) rest
term_done n ws x middle none rest a b = record {
  fits = fits_up n unary term x (omega arith) a.fits;
  spelled = a.spelled ∙ ap (λ t. words x ++ t) b.spelled;
  whole = b.whole;
}
term_done n ws x middle (one y ys) rest a b = record {
  fits = (omega arith, a.fits, b.fits);
  spelled = a.spelled ∙ ap (λ t. words x ++ t) b.spelled
      ∙ sym (append_assoc (words x) (words_of_others (keyword keywords.And) (one y ys)) rest);
  whole = b.whole;
}

-- the whole
pub whole_none : (n : ℕ) (ws : List Word) → StandsNone n expression ws → IsNone n ws
whole_none n ws f x h = f x [] (record { fits = h.fits; spelled = h.spelled ∙ sym (append-nil (words x)); whole = tt })

pub whole_more : (n : ℕ) (ws : List Word) (x : Tree) (rest : List Word) → Stands n expression ws x rest
    → (rest ≡ [] → ⊥) → IsNone n ws
whole_more n ws x rest a f y h = f (stands_same {y = y} a (record {
  fits = h.fits;
  spelled = h.spelled ∙ sym (append-nil (words y));
  whole = tt;
})).1

-- a unary
pub unary_done : (n : ℕ) (ws : List Word) (x : Tree) (rest : List Word) → Stands n primary ws x rest
    → Stands n unary ws x rest
unary_done n ws x rest a = record {
  fits = fits_up n primary unary x (omega arith) a.fits;
  spelled = a.spelled;
  whole = primary_stops rest a.whole;
}

pub unary_none : (n : ℕ) (ws : List Word) → ((s : Sign) → Lacks (word_of_sign s) ws) → Lacks (keyword keywords.Not) ws
    → StandsNone n primary ws → StandsNone n unary ws
unary_none n ws f g e y rest h =
    elim (unary_parts n ws y rest h) [
      | inl a ↦ e y rest a
      | inr b ↦ elim b [
        | inl i ↦ g i.more i.spelled
        | inr i ↦ f
            i.sign _ i.spelled
      ]
    ]

pub negation_done : (n : ℕ) (ws more : List Word) (x : Tree) (rest : List Word) → ws ≡ keyword keywords.Not ∷ more
    → Stands n primary more x rest → Stands n unary ws (negation x) rest
negation_done n ws more x rest e a = record {
  fits = (omega arith, a.fits);
  spelled = e ∙ ap (λ t. keyword keywords.Not ∷ t) a.spelled;
  whole = primary_stops rest a.whole;
}

pub conjoined_more : (x : Tree) (xs : List Expr) → (length xs ≡ 0 → ⊥) → conjoined x (trees_of xs) ≡ conjunction x
    (trees_of xs)
conjoined_more x [] f = absurd (f refl)
conjoined_more x (y ∷ ys) f = refl

alternatives_more : (x : Tree) (cs : List Choice) → (length cs ≡ 0 → ⊥) → disjoined x (choices_of cs) ≡ disjunction x
    (choices_of cs)
alternatives_more x [] f = absurd (f refl)
alternatives_more x (choice j y ∷ cs) f = refl

pub disjoined_more : (x : Tree) (xs : List Alternative) → (length xs ≡ 0 → ⊥)
    → disjoined x (alternatives_of xs) ≡ disjunction x (alternatives_of xs)
disjoined_more x xs f = alternatives_more x (map choice_of xs) (λ e. f (sym (length-map xs choice_of) ∙ e))

pub not_empty : (n : ℕ) (r : Bool) → r ≡ (n == 0) → r ≡ false → n ≡ 0 → ⊥
not_empty n r e f g = grind (arith, nat_tests)

-- before the end something is left
pub some_left : (lexemes : List Lexeme) (k : ℕ) → k < length lexemes → words_from k lexemes ≡ [] → ⊥
some_left lexemes k h e =
    let i : length (words_from k lexemes) ≡ 0 = ap length e in
    let j : length (words_from k lexemes) ≡ length (drop k lexemes) = length-map (drop k lexemes) word_of in
    omega (arith, length-drop k lexemes)
