-- The first place of each shape, one place more.
use Rattle.std.proofs.Common.{◌≡◌, ◌<◌, ◌+◌, ℕ, suc, Bool, true, false, cond, List, [], ◌∷◌, ◌++◌, length, Option, Some, None, refl, sym, ap, ◌∙◌, arith, slice_get}
use Rattle.std.specs.List.{position_from}
use Rattle.std.specs.Map.{lookup}
use Rattle.std.specs.Option.{option_or, unwrap_or}
use Rattle.std.proofs.lemmas.Iterator.Adapters.{position_from-zero}
use Rattle.std.proofs.lemmas.Bool.{false≢true}
use Rattle.std.proofs.lemmas.List.Quantifiers.{position-Some}
use Rattle.std.proofs.lemmas.Option.{get_or_from_slice_get}
use Rattle.step_values.specs.Shapes.{HaveOneShape}
use Rattle.step_values.specs.Values.{Values}
use Rattle.value_equality.specs.Rows.{Row}
use Rattle.row_signatures.specs.declared.shapes.Shape.{Shape}
use Rattle.std.specs.declared.hash.FoldHasher.{FoldHasher}
use Rattle.row_signatures.specs.steps.ComputedFlat.{shape_test}
use Rattle.row_signatures.specs.steps.ComputedShapes.{AreFirsts, IsFreeNumber, first_place, is_free_like, same_shape}
use Rattle.row_signatures.specs.steps.ShapeLaws.{own_shape, same_answers, test_back, test_decides}
use Rattle.row_signatures.proofs.OneShape.{shapes_decide}

-- what stands last is found where nothing before it is
module _ {A : Type 0} (test : A → Bool) where
  pub position_push : (k : ℕ) (xs : List A) (x : A) → position_from test k (xs ++ x ∷ [])
      ≡ option_or (position_from test k xs) (cond (test x) (Some (k + length xs)) None)
  position_push k [] x = ap (λ n. cond (test x) (Some n) None) (omega arith)
  position_push k (y ∷ xs) x = by (position_push (k + 1) xs x) (test y)
    where
      by : position_from test (k + 1) (xs ++ x ∷ [])
          ≡ option_or (position_from test (k + 1) xs) (cond (test x) (Some (k + 1 + length xs)) None)
          → (b : Bool) → cond b (Some k) (position_from test (k + 1) (xs ++ x ∷ []))
          ≡ option_or (cond b (Some k) (position_from test (k + 1) xs))
          (cond (test x) (Some (k + suc (length xs))) None)
      by rest true = refl
      by rest false =
          rest ∙ ap (λ n. option_or (position_from test (k + 1) xs) (cond (test x) (Some n) None)) (omega arith)

-- the first place stays
pub first_stays : (pinned : ℕ → Bool) (before : List Row) (vs : Values) (r : Row) (n : ℕ)
    → first_place pinned before vs ≡ Some n → first_place pinned (before ++ r ∷ []) vs ≡ Some n
first_stays pinned before vs r n at =
    position_push (is_free_like pinned vs) 0 before r
    ∙ ap (λ o. option_or o (cond (is_free_like pinned vs r) (Some (0 + length before)) None)) at

-- values of one shape have one first place
pub same_first : (pinned : ℕ → Bool) (all : List Row) (vs ws : Values) → HaveOneShape vs ws
    → first_place pinned all vs ≡ first_place pinned all ws
same_first pinned all vs ws h =
    λ i. position_from (λ r. cond (pinned r.name) false (same_answers vs ws h r.values i)) 0 all

-- the first place is that of a row
pub first_within : (pinned : ℕ → Bool) (all : List Row) (vs : Values) (n : ℕ) → Row
    → first_place pinned all vs ≡ Some n → n < length all
first_within pinned all vs n some e =
    (position-Some (is_free_like pinned vs) all n some (position_from-zero (is_free_like pinned vs) all ∙ e)).0

-- the row at the first place is free and has the shape
pub first_held : (pinned : ℕ → Bool) (all : List Row) (vs : Values) (n : ℕ) (r : Row)
    → first_place pinned all vs ≡ Some n → slice_get all n ≡ Some r
    → (pinned r.name ≡ false) × (shape_test vs r.values ≡ true)
first_held pinned all vs n r e at = by (pinned r.name) refl passes
  where
    passes : is_free_like pinned vs r ≡ true
    passes =
        ap (is_free_like pinned vs) (sym (get_or_from_slice_get all n r r at))
        ∙ (position-Some (is_free_like pinned vs) all n r (position_from-zero (is_free_like pinned vs) all ∙ e)).1

    by : (b : Bool) → pinned r.name ≡ b → cond b false (shape_test vs r.values) ≡ true
        → (pinned r.name ≡ false) × (shape_test vs r.values ≡ true)
    by true p h = absurd (false≢true h)
    by false p h = (p, h)

or_none : (o : Option ℕ) → option_or o None ≡ o
or_none None = refl
or_none (Some n) = refl

or_else : (o : Option ℕ) (n : ℕ) → Some (unwrap_or o n) ≡ option_or o (Some n)
or_else None n = refl
or_else (Some m) n = refl

-- a row that isn't one behind others
passed : (pinned : ℕ → Bool) (before : List Row) (vs : Values) (r : Row) → is_free_like pinned vs r ≡ false
    → first_place pinned before vs ≡ first_place pinned (before ++ r ∷ []) vs
passed pinned before vs r other =
    sym (position_push (is_free_like pinned vs) 0 before r
    ∙ (λ i. option_or (first_place pinned before vs) (cond (other i) (Some (0 + length before)) None))
    ∙ or_none (first_place pinned before vs))

-- a pinned row behind others is passed over
pub pinned_passed : (start : FoldHasher) (pinned : ℕ → Bool) (before : List Row) (r : Row) → pinned r.name ≡ true
    → (es : List (Shape × ℕ)) → AreFirsts start pinned before es → AreFirsts start pinned (before ++ r ∷ []) es
pinned_passed start pinned before r own es firsts vs s shape =
    firsts vs s shape ∙ passed pinned before vs r (ap (λ b. cond b false (shape_test vs r.values)) own)

-- the shape of a free row behind others is noted
module _ (start : FoldHasher) (pinned : ℕ → Bool) (before : List Row) (r : Row) (free : pinned r.name ≡ false)
    (place n : ℕ) (count : length before ≡ place) (old new : List (Shape × ℕ)) (firsts : AreFirsts start pinned before old)
    (number : IsFreeNumber start r place n old new) where
  abbrev vs : Values
  vs = r.values

  last : 0 + length before ≡ place
  last = omega (arith, count)

  here : (ws : Values) → is_free_like pinned ws r ≡ shape_test ws vs
  here ws = ap (λ b. cond b false (shape_test ws vs)) free

  pub own_first : first_place pinned (before ++ r ∷ []) vs ≡ Some n
  own_first =
      position_push (is_free_like pinned vs) 0 before r
      ∙ (λ i. option_or (sym (firsts vs number.shape number.shape_is) i)
      (cond ((here vs ∙ own_shape vs) i) (Some (last i)) None))
      ∙ sym (or_else (lookup (same_shape number.shape) old) place) ∙ ap Some (sym number.number_is)

  others : (ws : Values) (b : Bool) → shape_test vs ws ≡ b
      → cond b (Some n) (first_place pinned before ws) ≡ first_place pinned (before ++ r ∷ []) ws
  others ws true e = sym own_first ∙ same_first pinned (before ++ r ∷ []) vs ws ((test_decides vs ws).0 e)
  others ws false e = passed pinned before ws r (here ws ∙ test_back ws vs ∙ e)

  pub one_more_first : AreFirsts start pinned (before ++ r ∷ []) new
  one_more_first ws t shape =
      number.noted t
      ∙ (λ i. cond (shapes_decide start vs ws number.shape t number.shape_is shape i) (Some n) (firsts ws t shape i))
      ∙ others ws (shape_test vs ws) refl
