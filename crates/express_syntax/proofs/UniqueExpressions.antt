-- Words are those of one tree at most, and one tree at most stands at their front.
use Rattle.std.proofs.Common.{◌≡◌, ℕ, ◌+◌, suc, List, [], ◌∷◌, ◌++◌, length, Option, None, Some, sym, ap, ◌∙◌, arith}
use Rattle.express_lexer.specs.declared.marks.Mark.TheVariants as marks
use Rattle.express_syntax.specs.declared.keyword.Keyword.TheVariants as keywords
use Rattle.express_syntax.specs.Words.{Word, mark}
use Rattle.express_syntax.specs.Trees.{Tree, Trees, Qualifiers, words, words_of_trees, words_of_others, words_of_qualifiers}
use Rattle.express_syntax.specs.Grammar.{Level, primary, expression, FitsLevel, FitsEach, FitsQualifiers, IsExpression}
use Rattle.express_syntax.specs.steps.Reads.{Stops}
use Rattle.express_syntax.proofs.Parser.{parser, elements_by}
use Rattle.express_syntax.proofs.Parsed.{reads, reads_qualifiers, reads_elements, reads_more}

-- an answer is one
same_answer : {A : Type 0} (x y : A) (r s : List Word) → ◌≡◌ {A = Option (A × List Word)} (Some (x, r)) (Some (y, s))
    → (x ≡ y) × (r ≡ s)
same_answer {A} x y r s e = let f : Option (A × List Word) → A × List Word = elim [ None ↦ (x, r) | Some p ↦ p ] in
    (ap (λ o. (f o).0) e, ap (λ o. (f o).1) e)

-- one tree at most stands at the front of words
pub one_front : (n : ℕ) (l : Level) (x y : Tree) (r s : List Word) → FitsLevel n l x → FitsLevel n l y → words x ++ r ≡ words y
    ++ s → Stops l r → Stops l s → (x ≡ y) × (r ≡ s)
one_front n l x y r s f g e h k =
    let m : ℕ = suc (length (words x) + length (words y)) in
    same_answer x y r s (sym (reads x n l r m f h (omega arith)) ∙ ap ((parser m).at l) e
    ∙ reads y n l s m g k (omega arith))

-- words are those of at most one tree, for any numbers of brackets open around them
pub one_tree_at_most : (n m : ℕ) (ws : List Word) (x y : Tree) → IsExpression n ws x → IsExpression m ws y → x ≡ y
one_tree_at_most n m ws x y a b =
    let k : ℕ = suc (length (words x) + length (words y)) in
    (same_answer x y [] [] (sym (reads x n expression [] k a.fits tt (omega arith))
    ∙ ap (λ v. (parser k).at expression (v ++ [])) (sym a.spelled ∙ b.spelled) ∙ reads y m expression [] k b.fits tt
    (omega arith))).0

pub one_tree : (n : ℕ) (ws : List Word) (x y : Tree) → IsExpression n ws x → IsExpression n ws y → x ≡ y
one_tree n ws x y a b = one_tree_at_most n n ws x y a b

pub one_qualifiers : (n : ℕ) (xs ys : Qualifiers) (r s : List Word) → FitsQualifiers n xs → FitsQualifiers n ys
    → words_of_qualifiers xs ++ r ≡ words_of_qualifiers ys ++ s → Stops primary r → Stops primary s → (xs ≡ ys)
    × (r ≡ s)
one_qualifiers n xs ys r s f g e h k =
    let m : ℕ = suc (length (words_of_qualifiers xs) + length (words_of_qualifiers ys)) in
    same_answer xs ys r s (sym (reads_qualifiers xs n r m f h (omega arith)) ∙ ap (parser m).qualifiers e
    ∙ reads_qualifiers ys n s m g k (omega arith))

-- elements with a comma before each, up to the bracket that closes them
pub one_more : (n : ℕ) (xs ys : Trees) (r s : List Word) → FitsEach n expression xs → FitsEach n expression ys
    → words_of_others (mark marks.Comma) xs ++ mark marks.CloseBracket ∷ r ≡ words_of_others (mark marks.Comma) ys
    ++ mark marks.CloseBracket ∷ s → (xs ≡ ys) × (r ≡ s)
one_more n xs ys r s f g e =
    let m : ℕ = suc (length (words_of_others (mark marks.Comma) xs) + length (words_of_others (mark marks.Comma) ys)) in
    same_answer xs ys r s (sym (reads_more xs n r m f (omega arith)) ∙ ap (parser m).more e
    ∙ reads_more ys n s m g (omega arith))

-- elements with commas between, up to the bracket that closes them
pub one_elements : (n : ℕ) (xs ys : Trees) (r s : List Word) → FitsEach n expression xs → FitsEach n expression ys
    → words_of_trees xs ++ mark marks.CloseBracket ∷ r ≡ words_of_trees ys ++ mark marks.CloseBracket ∷ s → (xs ≡ ys)
    × (r ≡ s)
one_elements n xs ys r s f g e =
    let m : ℕ = suc (length (words_of_trees xs) + length (words_of_trees ys)) in
    same_answer xs ys r s (sym (reads_elements xs n r m f (omega arith)) ∙ ap (elements_by (parser m)) e
    ∙ reads_elements ys n s m g (omega arith))
