-- What a number is worth, by its pieces in the table of tokens.
use Rattle.std.proofs.Common.{◌≡◌, ℕ, ◌+◌, true, false, List, [], ◌∷◌, ◌++◌, length, ℤ, pos, neg_ℤ, ◌-ℤ◌, refl, sym, ap, ◌∙◌, arith, append_assoc, append-nil, drop, subst}
use Rattle.std.specs.Prelude.{◌==◌}
use Rattle.std.specs.List.{filter, prefix_len}
use Rattle.std.specs.Str.Parse.{digits_value}
use Rattle.std.proofs.lemmas.Int.{ints}
use Rattle.std.proofs.lemmas.Bool.Decides.{nat_tests}
use Rattle.step_literals.specs.Bytes.{is_digit, Each}
use Rattle.step_literals.specs.Tokens.{is_e, IsSign, IsDigits, IsExponent}
use Rattle.step_literals.specs.Numbers.{exponent_text, exponent_digits}
use Rattle.step_literals.specs.Decimals.{mantissa_text, mantissa_digits, part_digits, is_negative, signed, mantissa, exponent}
use Rattle.step_literals.proofs.NumberLimits.{no_e, digits_no_e, signs_no_e, each_append, no_exponent_text, exponent_behind_e, exponent_written}
use Rattle.step_literals.proofs.DecimalText.{no_dot, IsTail, no_point, point, digits_are, behind_is, before_exponent}

no_minus : (b : ℕ) → is_digit b ≡ true → (b == 45) ≡ false
no_minus b h = grind (arith, nat_tests)

-- the sign stands first
sign_leads : (s ds r : List ℕ) → IsSign s → IsDigits ds → is_negative (s ++ (ds ++ r)) ≡ is_negative s
sign_leads [] [] r hs hd = absurd (omega (arith, hd.0))
sign_leads [] (x ∷ xs) r hs hd = no_minus x hd.1.0
sign_leads (x ∷ xs) ds r hs hd = refl

-- what the exponent of a front with no `E` writes
pub record Writes (x : List ℕ) (power : ℤ) : Type 0 where
  is : IsExponent x
  writes : (front : List ℕ) → Each no_e front → signed (is_negative (exponent_text (front ++ x)))
      (digits_value 10 (exponent_digits (front ++ x))) ≡ power

writes_none : Writes [] (pos 0)
writes_none = record {
  is = tt;
  writes = λ front h. (let e : exponent_text (front ++ []) ≡ [] = ap exponent_text (append-nil front)
      ∙ no_exponent_text front h in rw e refl);
}

pub writes_some : (e : ℕ) (minus ds : List ℕ) → is_e e ≡ true → IsSign minus → IsDigits ds → Writes (e ∷ (minus ++ ds))
    (signed (is_negative minus) (digits_value 10 ds))
writes_some e minus ds he hs hd = record {
  is = (he, minus, ds, hs, hd, refl);
  writes = λ front h.
      (let text : exponent_text (front ++ e ∷ (minus ++ ds)) ≡ minus ++ (ds ++ []) = exponent_behind_e front
      (minus ++ ds) e h he ∙ ap (λ l. minus ++ l) (sym (append-nil ds)) in
      let sign : is_negative (exponent_text (front ++ e ∷ (minus ++ ds))) ≡ is_negative minus = ap is_negative text
      ∙ sign_leads minus ds [] hs hd in
      (λ i. signed (sign i) (digits_value 10 (exponent_written front minus ds e h he hs hd i))));
}

module _ (s w tail p x : List ℕ) (power : ℤ) (hs : IsSign s) (hw : IsDigits w) (ht : IsTail tail p)
    (h : Each no_e ((s ++ w) ++ tail)) (hx : Writes x power) where
  text_is : mantissa_text (((s ++ w) ++ tail) ++ x) ≡ (s ++ w) ++ tail
  text_is = before_exponent ((s ++ w) ++ tail) x h hx.is

  mantissa_is : mantissa (((s ++ w) ++ tail) ++ x) ≡ signed (is_negative s) (digits_value 10 (w ++ p))
  mantissa_is =
      let same : ((s ++ w) ++ tail) ++ x ≡ s ++ (w ++ (tail ++ x)) = simp append_assoc in
      let sign : is_negative (((s ++ w) ++ tail) ++ x) ≡ is_negative s = ap is_negative same
      ∙ sign_leads s w (tail ++ x) hs hw in
      let digits : mantissa_digits (((s ++ w) ++ tail) ++ x) ≡ w ++ p = ap (filter is_digit) text_is
      ∙ digits_are s w tail p hs hw ht in
      (λ i. signed (sign i) (digits_value 10 (digits i)))

  exponent_is : exponent (((s ++ w) ++ tail) ++ x) ≡ power -ℤ pos (length p)
  exponent_is =
      let part : part_digits (((s ++ w) ++ tail) ++ x) ≡ p = ap (λ m. drop (1 + prefix_len no_dot m) m) text_is
      ∙ behind_is s w tail p hs hw ht in
      (λ i. hx.writes ((s ++ w) ++ tail) h i -ℤ pos (length (part i)))

module _ (s w : List ℕ) (hs : IsSign s) (hw : IsDigits w) where
  front_no_e : Each no_e (s ++ w)
  front_no_e = each_append no_e s w (signs_no_e s hs) (digits_no_e w hw.1)

  alone : s ++ w ≡ (s ++ w) ++ [] ++ []
  alone = sym (append-nil (s ++ w)) ∙ sym (append-nil ((s ++ w) ++ []))

  pub integer_worth : (mantissa (s ++ w) ≡ signed (is_negative s) (digits_value 10 w)) × (exponent (s ++ w) ≡ pos 0)
  integer_worth =
      let h : Each no_e (s ++ w ++ []) = subst (Each no_e) (sym (append-nil (s ++ w))) front_no_e in
      let e : pos 0 -ℤ pos (length {A = ℕ} []) ≡ pos 0 = omega (arith, ints) in (
        ap mantissa alone ∙ mantissa_is s w [] [] [] (pos 0) hs hw no_point h writes_none
            ∙ ap (λ l. signed (is_negative s) (digits_value 10 l)) (append-nil w),
        ap exponent alone ∙ exponent_is s w [] [] [] (pos 0) hs hw no_point h writes_none ∙ e,
      )

  module _ (p : List ℕ) (hp : Each is_digit p) where
    real_no_e : Each no_e (s ++ w ++ 46 ∷ p)
    real_no_e = each_append no_e (s ++ w) (46 ∷ p) front_no_e (refl, digits_no_e p hp)

    pub real_worth : (x : List ℕ) (power : ℤ) → Writes x power
        → (mantissa (s ++ w ++ 46 ∷ p ++ x) ≡ signed (is_negative s) (digits_value 10 (w ++ p)))
        × (exponent (s ++ w ++ 46 ∷ p ++ x) ≡ power -ℤ pos (length p))
    real_worth x power hx = (
      mantissa_is s w (46 ∷ p) p x power hs hw (point p hp) real_no_e hx,
      exponent_is s w (46 ∷ p) p x power hs hw (point p hp) real_no_e hx,
    )

    pub plain_worth : (mantissa (s ++ w ++ 46 ∷ p) ≡ signed (is_negative s) (digits_value 10 (w ++ p)))
        × (exponent (s ++ w ++ 46 ∷ p) ≡ neg_ℤ (pos (length p)))
    plain_worth =
        let r = real_worth [] (pos 0) writes_none in
        let same : s ++ w ++ 46 ∷ p ≡ s ++ w ++ 46 ∷ p ++ [] = sym (append-nil (s ++ w ++ 46 ∷ p)) in
        let e : pos 0 -ℤ pos (length p) ≡ neg_ℤ (pos (length p)) = omega (arith, ints) in
        (ap mantissa same ∙ r.0, ap exponent same ∙ r.1 ∙ e)
