-- The first row of each kind, one row more.
use Rattle.std.proofs.Common.{◌≡◌, ℕ, Bool, true, false, cond, List, [], ◌∷◌, ◌++◌, map, Option, Some, None, refl, sym, ap, ◌∙◌, nat_eq}
use Rattle.std.specs.Prelude.{◌==◌, ◌&&◌}
use Rattle.std.specs.Ordering.{on}
use Rattle.std.specs.Cmp.Lexicographic.{pointwise}
use Rattle.std.specs.Map.{lookup}
use Rattle.std.specs.Str.{bytes_eq}
use Rattle.std.proofs.lemmas.Bool.{false≢true}
use Rattle.step_literals.specs.declared.literal.Word.{Word}
use Rattle.step_literals.specs.Values.{word_value}
use Rattle.step_values.specs.AgreementTests.{each_test}
use Rattle.step_values.specs.Views.{word_of}
use Rattle.value_equality.specs.steps.ComputedKinds.{kind_test}
use Rattle.value_equality.specs.Rows.{Kind}
use Rattle.value_equality.proofs.OneKind.{kinds_decide}
use Rattle.row_signatures.specs.declared.kinds.RowKind.{RowKind}
use Rattle.row_signatures.specs.steps.ComputedKinds.{kind_seen, first_in}

-- words are compared by their values
pub same_words : (xs ys : List Word) → each_test bytes_eq (map word_of xs) (map word_of ys)
    ≡ pointwise (on word_value (pointwise nat_eq)) xs ys
same_words [] [] = refl
same_words [] (y ∷ ys) = refl
same_words (x ∷ xs) [] = refl
same_words (x ∷ xs) (y ∷ ys) = ap (λ b. bytes_eq (word_of x) (word_of y) && b) (same_words xs ys)

-- what is noted of a kind already may be noted again
pub found_again : (first : Kind → Option ℕ) (q : Kind) (n : ℕ) → first q ≡ Some n → (k : Kind)
    → first k ≡ cond (kind_test k q) (Some n) (first k)
found_again first q n at k = by (kind_test k q) refl
  where
    by : (b : Bool) → kind_test k q ≡ b → first k ≡ cond b (Some n) (first k)
    by true e = ap first ((kinds_decide k q).0 e) ∙ at
    by false e = refl

-- a kind that wasn't noted
pub added : (es : List (RowKind × ℕ)) (q : RowKind) (n : ℕ) → first_in es (kind_seen q) ≡ None → (k : Kind)
    → first_in (es ++ (q, n) ∷ []) k ≡ cond (kind_test k (kind_seen q)) (Some n) (first_in es k)
added [] q n none k = refl
added (e ∷ es) q n none k =
    let other = apart (kind_test (kind_seen q) (kind_seen e.0)) e.1 (first_in es (kind_seen q)) none in
    ap (λ o. cond (kind_test k (kind_seen e.0)) (Some e.1) o) (added es q n other.1 k)
    ∙ by (kind_test k (kind_seen e.0)) (kind_test k (kind_seen q)) refl refl other.0
  where
    apart : (b : Bool) (m : ℕ) (o : Option ℕ) → cond b (Some m) o ≡ None → (b ≡ false) × (o ≡ None)
    apart true m o h = absurd (cc)
    apart false m o h = (refl, h)

    by : (b c : Bool) → kind_test k (kind_seen e.0) ≡ b → kind_test k (kind_seen q) ≡ c
        → kind_test (kind_seen q) (kind_seen e.0) ≡ false
        → cond b (Some e.1) (cond c (Some n) (first_in es k)) ≡ cond c (Some n) (cond b (Some e.1) (first_in es k))
    by true true f g other =
        absurd (false≢true (sym other ∙ ap (λ x. kind_test x (kind_seen e.0)) (sym ((kinds_decide k (kind_seen q)).0 g))
        ∙ f))
    by true false f g other = refl
    by false true f g other = refl
    by false false f g other = refl

-- the map's own look-up, whose test is that of kinds
pub looked_up : (test : RowKind → Bool) (q : RowKind) → ((k : RowKind) → test k ≡ kind_test (kind_seen q) (kind_seen k))
    → (es : List (RowKind × ℕ)) → lookup test es ≡ first_in es (kind_seen q)
looked_up test q same [] = refl
looked_up test q same (e ∷ es) =
    (λ i. cond (same e.0 i) (Some e.1) (looked_up test q same es i))

pub same_kind : (q k : RowKind) → ((q.section == k.section)
    && pointwise (on word_value (pointwise nat_eq)) q.types.now k.types.now) ≡ kind_test (kind_seen q) (kind_seen k)
same_kind q k = ap (λ b. (q.section == k.section) && b) (sym (same_words q.types.now k.types.now))
