-- Trees of lists that grow at their end: what the words and the limits of the whole are.
use Rattle.std.proofs.Common.{◌≡◌, ℕ, List, [], ◌∷◌, ◌++◌, map, refl, sym, ap, ◌∙◌}
use Rattle.std.proofs.lemmas.List.{append_assoc}
use Rattle.express_syntax.specs.declared.expression.Expr.{Expr}
use Rattle.express_syntax.specs.declared.expression.Qualifier.{Qualifier}
use Rattle.express_syntax.specs.declared.expression.Alternative.{Alternative}
use Rattle.express_lexer.specs.declared.marks.Mark.TheVariants as marks
use Rattle.express_syntax.specs.Words.{Word, name, mark}
use Rattle.express_syntax.specs.Trees.{Trees, none, one, Alternatives, finish, another, Qualifiers, plain, attribute, group, index, words, word_of_junction, words_of_others, words_of_alternatives, words_of_qualifiers}
use Rattle.express_syntax.specs.Grammar.{Level, FitsEach, FitsMore, FitsQualifiers}
use Rattle.express_syntax.specs.ExpressionViews.{Choice, choice, Selection, of_attribute, of_group, of_element, choices_of, selections_of, tree_of, choice_of, selection_of, trees_of, alternatives_of, qualifiers_of}

-- one behind the other
abbrev pub joined : Trees → Trees → Trees
joined none ys = ys
joined (one x xs) ys = one x (joined xs ys)

abbrev pub joined_alternatives : Alternatives → Alternatives → Alternatives
joined_alternatives finish ys = ys
joined_alternatives (another j x xs) ys = another j x (joined_alternatives xs ys)

abbrev pub joined_qualifiers : Qualifiers → Qualifiers → Qualifiers
joined_qualifiers plain ys = ys
joined_qualifiers (attribute a xs) ys = attribute a (joined_qualifiers xs ys)
joined_qualifiers (group e a xs) ys = group e a (joined_qualifiers xs ys)
joined_qualifiers (index x xs) ys = index x (joined_qualifiers xs ys)

-- the qualifiers that one is, before others
abbrev pub selected : Selection → Qualifiers → Qualifiers
selected (of_attribute a) qs = attribute a qs
selected (of_group e a) qs = group e a qs
selected (of_element x) qs = index x qs

abbrev pub chosen : Choice → Alternatives → Alternatives
chosen (choice j x) xs = another j x xs

-- what a list with one more at its end is
pub trees_push : (xs : List Expr) (x : Expr) → trees_of (xs ++ x ∷ []) ≡ joined (trees_of xs) (one (tree_of x) none)
trees_push [] x = refl
trees_push (y ∷ xs) x = ap (one (tree_of y)) (trees_push xs x)

choices_push : (cs : List Choice) (c : Choice) → choices_of (cs ++ c ∷ []) ≡ joined_alternatives (choices_of cs)
    (chosen c finish)
choices_push [] (choice j x) = refl
choices_push (choice i y ∷ cs) c = ap (another i y) (choices_push cs c)

selections_push : (ss : List Selection) (s : Selection) → selections_of (ss ++ s ∷ []) ≡ joined_qualifiers
    (selections_of ss) (selected s plain)
selections_push [] (of_attribute a) = refl
selections_push [] (of_group e a) = refl
selections_push [] (of_element x) = refl
selections_push (of_attribute a ∷ ss) s = ap (attribute a) (selections_push ss s)
selections_push (of_group e a ∷ ss) s = ap (group e a) (selections_push ss s)
selections_push (of_element x ∷ ss) s = ap (index x) (selections_push ss s)

module _ {A B : Type 0} (f : A → B) where
  map_push : (xs : List A) (x : A) → map f (xs ++ x ∷ []) ≡ map f xs ++ f x ∷ []
  map_push [] x = refl
  map_push (y ∷ xs) x = ap (λ r. f y ∷ r) (map_push xs x)

pub alternatives_push : (xs : List Alternative) (x : Alternative) → alternatives_of (xs ++ x ∷ []) ≡ joined_alternatives
    (alternatives_of xs) (chosen (choice_of x) finish)
alternatives_push xs x = ap choices_of (map_push choice_of xs x) ∙ choices_push (map choice_of xs) (choice_of x)

pub qualifiers_push : (xs : List Qualifier) (x : Qualifier) → qualifiers_of (xs ++ x ∷ []) ≡ joined_qualifiers
    (qualifiers_of xs) (selected (selection_of x) plain)
qualifiers_push xs x = ap selections_of (map_push selection_of xs x) ∙ selections_push (map selection_of xs)
    (selection_of x)

-- joining is associative, and nothing is neutral
pub joined_none : (xs : Trees) → joined xs none ≡ xs
joined_none none = refl
joined_none (one x xs) = ap (one x) (joined_none xs)

pub joined_joined : (xs ys zs : Trees) → joined (joined xs ys) zs ≡ joined xs (joined ys zs)
joined_joined none ys zs = refl
joined_joined (one x xs) ys zs = ap (one x) (joined_joined xs ys zs)

pub joined_alternatives_finish : (xs : Alternatives) → joined_alternatives xs finish ≡ xs
joined_alternatives_finish finish = refl
joined_alternatives_finish (another j x xs) = ap (another j x) (joined_alternatives_finish xs)

pub joined_joined_alternatives : (xs ys zs : Alternatives) → joined_alternatives (joined_alternatives xs ys)
    zs ≡ joined_alternatives xs (joined_alternatives ys zs)
joined_joined_alternatives finish ys zs = refl
joined_joined_alternatives (another j x xs) ys zs = ap (another j x) (joined_joined_alternatives xs ys zs)

pub joined_qualifiers_plain : (xs : Qualifiers) → joined_qualifiers xs plain ≡ xs
joined_qualifiers_plain plain = refl
joined_qualifiers_plain (attribute a xs) = ap (attribute a) (joined_qualifiers_plain xs)
joined_qualifiers_plain (group e a xs) = ap (group e a) (joined_qualifiers_plain xs)
joined_qualifiers_plain (index x xs) = ap (index x) (joined_qualifiers_plain xs)

pub joined_joined_qualifiers : (xs ys zs : Qualifiers) → joined_qualifiers (joined_qualifiers xs ys)
    zs ≡ joined_qualifiers xs (joined_qualifiers ys zs)
joined_joined_qualifiers plain ys zs = refl
joined_joined_qualifiers (attribute a xs) ys zs = ap (attribute a) (joined_joined_qualifiers xs ys zs)
joined_joined_qualifiers (group e a xs) ys zs = ap (group e a) (joined_joined_qualifiers xs ys zs)
joined_joined_qualifiers (index x xs) ys zs = ap (index x) (joined_joined_qualifiers xs ys zs)

-- the words of what is joined
pub words_of_joined : (w : Word) (xs ys : Trees) → words_of_others w (joined xs ys) ≡ words_of_others w xs
    ++ words_of_others w ys
words_of_joined w none ys = refl
words_of_joined w (one x xs) ys =
    ap (λ r. w ∷ (words x ++ r)) (words_of_joined w xs ys)
    ∙ ap (λ r. w ∷ r) (sym (append_assoc (words x) (words_of_others w xs) (words_of_others w ys)))

pub words_of_joined_alternatives : (xs ys : Alternatives)
    → words_of_alternatives (joined_alternatives xs ys) ≡ words_of_alternatives xs ++ words_of_alternatives ys
words_of_joined_alternatives finish ys = refl
words_of_joined_alternatives (another j x xs) ys =
    ap (λ r. word_of_junction j ∷ (words x ++ r)) (words_of_joined_alternatives xs ys)
    ∙ ap (λ r. word_of_junction j ∷ r)
    (sym (append_assoc (words x) (words_of_alternatives xs) (words_of_alternatives ys)))

pub words_of_joined_qualifiers : (xs ys : Qualifiers)
    → words_of_qualifiers (joined_qualifiers xs ys) ≡ words_of_qualifiers xs ++ words_of_qualifiers ys
words_of_joined_qualifiers plain ys = refl
words_of_joined_qualifiers (attribute a xs) ys = ap (λ r. mark marks.Dot ∷ name a ∷ r)
    (words_of_joined_qualifiers xs ys)
words_of_joined_qualifiers (group e a xs) ys = ap (λ r. mark marks.Backslash ∷ name e ∷ mark marks.Dot ∷ name a ∷ r)
    (words_of_joined_qualifiers xs ys)
words_of_joined_qualifiers (index x xs) ys =
    ap (λ r. mark marks.OpenBracket ∷ (words x ++ mark marks.CloseBracket ∷ r)) (words_of_joined_qualifiers xs ys)
    ∙ ap (λ r. mark marks.OpenBracket ∷ r)
    (sym (append_assoc (words x) (mark marks.CloseBracket ∷ words_of_qualifiers xs) (words_of_qualifiers ys)))

-- what is joined fits where both do
pub fits_joined : (n : ℕ) (l : Level) (xs ys : Trees) → FitsEach n l xs → FitsEach n l ys → FitsEach n l (joined xs ys)
fits_joined n l none ys f g = g
fits_joined n l (one x xs) ys f g = (f.0, fits_joined n l xs ys f.1 g)

pub fits_joined_alternatives : (n : ℕ) (xs ys : Alternatives) → FitsMore n xs → FitsMore n ys
    → FitsMore n (joined_alternatives xs ys)
fits_joined_alternatives n finish ys f g = g
fits_joined_alternatives n (another j x xs) ys f g = (f.0, fits_joined_alternatives n xs ys f.1 g)

pub fits_joined_qualifiers : (n : ℕ) (xs ys : Qualifiers) → FitsQualifiers n xs → FitsQualifiers n ys
    → FitsQualifiers n (joined_qualifiers xs ys)
fits_joined_qualifiers n plain ys f g = g
fits_joined_qualifiers n (attribute a xs) ys f g = fits_joined_qualifiers n xs ys f g
fits_joined_qualifiers n (group e a xs) ys f g = fits_joined_qualifiers n xs ys f g
fits_joined_qualifiers n (index x xs) ys f g = (f.0, f.1, fits_joined_qualifiers n xs ys f.2 g)
