-- Lemmas for the laws of the traits: numbers with the same value feed a hasher the same.
use Rattle.std.proofs.Common.{◌≡◌, ℕ, zero, suc, ◌+◌, ◌-◌, ◌*◌, ◌%◌, ◌^◌, ◌<◌, length, Bool, true, false, cond, List, [], ◌∷◌, ◌++◌, refl, sym, ap, ◌∙◌, arith, IsTrue, inl, inr}
use Rattle.std.specs.Prelude.{◌⊎◌, ◌&&◌, ◌==◌, if◌then◌else◌}
use Rattle.std.specs.Hash as fed
use Rattle.std.specs.Ordering.{on, int_eq}
use Rattle.std.specs.Cmp.{signed_Decides}
use Rattle.std.proofs.lemmas.Bool.{cases_order}
use Rattle.step_literals.specs.declared.literal.Decimal.{Decimal}
use Rattle.step_literals.specs.Decimals.{is_negative, units}
use Rattle.step_literals.specs.steps.DigitStrings.{is_significant, has_digit, magnitude, top, end_of, front_value, significant_digits, shift_of, is_below_zero}
use Rattle.step_literals.specs.DecimalKeys.{units_of, front_writes, key, key_writes}
use Rattle.step_literals.specs.steps.MagnitudeLemmas.{digit_small, magnitude_none, less_by_top}
use Rattle.step_literals.specs.steps.NormalFormLemmas.{signed_same, units_by_digits, digits_significant, normal_unique, magnitude_end, end_within, end_last, end_some, magnitude_some}

and_false : (b : Bool) → (b && false) ≡ false
and_false true = refl
and_false false = refl

module _ (xs ys : List ℕ) (a b : ℕ) (hx : is_significant xs ≡ true) (hy : is_significant ys ≡ true)
    (e : magnitude xs a ≡ magnitude ys b) where
  same_top_of : (top xs a ≡ top ys b) ⊎ ((top xs a < top ys b) ⊎ (top ys b < top xs a)) → top xs a ≡ top ys b
  same_top_of (inl h) = h
  same_top_of (inr (inl h)) = absurd (omega (arith, e, less_by_top xs ys a b hx hy h))
  same_top_of (inr (inr h)) = absurd (omega (arith, e, less_by_top ys xs b a hy hx h))

  same_top : top xs a ≡ top ys b
  same_top = same_top_of (cases_order (top xs a) (top ys b))

  same_fronts : 0 < magnitude xs a → (front_value (end_of (length xs) xs) xs ≡ front_value (end_of (length ys) ys) ys)
      × (length xs - end_of (length xs) xs + a ≡ length ys - end_of (length ys) ys + b)
  same_fronts h =
      normal_unique _ _ _ _ (end_last xs a hx (end_some xs a hx h))
      (end_last ys b hy (end_some ys b hy (omega (arith, e, h)))) (sym (magnitude_end xs a hx) ∙ e
      ∙ magnitude_end ys b hy)

-- if the first n digits of two numbers write the same number, so do any fewer
module _ (xs ys : List ℕ) (hx : is_significant xs ≡ true) (hy : is_significant ys ≡ true) where
  same_front_writes : (n : ℕ) → front_value n xs ≡ front_value n ys → front_writes n xs ≡ front_writes n ys
  same_front_writes zero e = refl
  same_front_writes (suc n) e =
      let fewer : front_value n xs ≡ front_value n ys = omega (arith, e, digit_small xs hx n, digit_small ys hy n) in
      λ i. same_front_writes n fewer i ++ (if n % 19 == 18 then fed.u64 (e i % 2 ^ 64) else [])

  same_of_fronts : (n m : ℕ) → n ≡ m → front_value n xs ≡ front_value m ys
      → (n ≡ m) × (front_value n xs ≡ front_value m ys) × (front_writes n xs ≡ front_writes m ys)
  same_of_fronts n m same e =
      let one : front_value n xs ≡ front_value n ys = e ∙ ap (λ k. front_value k ys) (sym same) in
      (same, e, same_front_writes n one ∙ ap (λ k. front_writes k ys) same)

same_digits : (xs ys : List ℕ) (a b : ℕ) → is_significant xs ≡ true → is_significant ys ≡ true
    → magnitude xs a ≡ magnitude ys b → (end_of (length xs) xs ≡ end_of (length ys) ys)
    × (front_value (end_of (length xs) xs) xs ≡ front_value (end_of (length ys) ys) ys)
    × (front_writes (end_of (length xs) xs) xs ≡ front_writes (end_of (length ys) ys) ys)
same_digits [] [] a b hx hy e = (refl, refl, refl)
same_digits [] (y ∷ ys) a b hx hy e = absurd (omega (arith, e, magnitude_none a, magnitude_some y ys b hy))
same_digits (x ∷ xs) [] a b hx hy e = absurd (omega (arith, e, magnitude_none b, magnitude_some x xs a hx))
same_digits (x ∷ xs) (y ∷ ys) a b hx hy e =
    let fronts = same_fronts (x ∷ xs) (y ∷ ys) a b hx hy e (magnitude_some x xs a hx) in
    let tops = same_top (x ∷ xs) (y ∷ ys) a b hx hy e in
    let one = end_within (x ∷ xs) a hx in
    let two = end_within (y ∷ ys) b hy in
    same_of_fronts (x ∷ xs) (y ∷ ys) hx hy (end_of (length (x ∷ xs)) (x ∷ xs)) (end_of (length (y ∷ ys)) (y ∷ ys))
    (omega (arith, fronts.1, tops, one, two)) fronts.0

same_sign : (xs ys : List ℕ) (a b : ℕ) (p q : Bool) → is_significant xs ≡ true → is_significant ys ≡ true
    → magnitude xs a ≡ magnitude ys b
    → (0 < magnitude xs a → (p && has_digit xs) ≡ (q && has_digit ys)) → (p && has_digit xs) ≡ (q && has_digit ys)
same_sign [] [] a b p q hx hy e h = and_false p ∙ sym (and_false q)
same_sign [] (y ∷ ys) a b p q hx hy e h = absurd (omega (arith, e, magnitude_none a, magnitude_some y ys b hy))
same_sign (x ∷ xs) ys a b p q hx hy e h = h (magnitude_some x xs a hx)

key_same : (s t : List ℕ) → units s ≡ units t → key s ≡ key t
key_same s t e =
    let xs = significant_digits s in let ys = significant_digits t in
    let a = shift_of s in let b = shift_of t in
    let hx = digits_significant s in let hy = digits_significant t in
    let u = signed_same (is_below_zero s) (is_below_zero t) (magnitude xs a) (magnitude ys b) (sym (units_by_digits s)
    ∙ e ∙ units_by_digits t) in
    let sign = same_sign xs ys a b (is_negative s) (is_negative t) hx hy u.0 u.1 in
    let digits = same_digits xs ys a b hx hy u.0 in
    let tops = same_top xs ys a b hx hy u.0 in
    (λ i. (digits.1 i % 2 ^ 64 + 2 ^ 64 * (2 * digits.0 i + cond (sign i) 1 0 + 2 ^ 10 * tops i), digits.2 i))

pub key_respects_eq : (x y : Decimal) → IsTrue (on units_of int_eq x y) → key_writes x ≡ key_writes y
key_respects_eq x y h = ap (λ (k : ℕ × List (List ℕ)). fed.u128 k.0 ++ k.1)
    (key_same x.text.now y.text.now ((signed_Decides (units x.text.now) (units y.text.now)).0 h))
