-- Two numbers brought to the lesser exponent.
use Rattle.std.proofs.Common.{◌≡◌, ℕ, suc, ◌+◌, ◌-◌, ◌*◌, ◌^◌, ◌<◌, ◌≤◌, min, true, List, ℤ, pos, negsuc, neg_ℤ, ◌+ℤ◌, ◌-ℤ◌, ◌*ℤ◌, ◌<ℤ◌, sym, ap, ◌∙◌, arith}
use Rattle.std.specs.Prelude.{◌↔◌}
use Rattle.std.proofs.lemmas.Nat.{pow-add}
use Rattle.std.proofs.lemmas.Int.{ints, clamps}
use Rattle.std.proofs.Math.Nat.{mul_assoc, mul-lt-mul_of_pos_right, lt_of_mul-lt-mul_right}
use Rattle.step_literals.specs.Literals.{IsDecimal}
use Rattle.step_literals.specs.Decimals.{mantissa, exponent, ten_to, units, finest, ComparedAtLesserExponent}
use Rattle.step_literals.specs.steps.DigitStrings.{shift_of}
use Rattle.step_literals.specs.steps.MagnitudeLemmas.{ten_pos}
use Rattle.step_literals.specs.steps.NormalFormLemmas.{signed_times}
use Rattle.step_literals.proofs.DecimalText.{shift_of_exponent}
use Rattle.step_literals.proofs.UnitLemmas.{times_pos, times_cancel}

times_twice : (x : ℤ) (p q : ℕ) → x *ℤ pos (p * q) ≡ x *ℤ pos p *ℤ pos q
times_twice (pos k) p q = ap pos (sym (mul_assoc k p q))
times_twice (negsuc k) p q = ap (λ n. neg_ℤ (pos n)) (sym (mul_assoc (suc k) p q))
    ∙ sym (signed_times true (suc k * p) q)

times_less : (x y : ℤ) (p : ℕ) → 0 < p → ((x *ℤ pos p) <ℤ (y *ℤ pos p)) ↔ (x <ℤ y)
times_less (pos j) (pos k) p h = (
  λ l. (let n : j < k = lt_of_mul-lt-mul_right p (omega (arith, ints, l)) in omega (arith, ints, n)),
  λ l. (let n : j * p < k * p = mul-lt-mul_of_pos_right (omega (arith, ints, l)) h in omega (arith, ints, n)),
)
times_less (pos j) (negsuc k) p h = (
  λ l. absurd (omega (arith, ints, l, times_pos k p h)),
  λ l. absurd (omega (arith, ints, l)),
)
times_less (negsuc j) (pos k) p h = (λ l. omega (arith, ints), λ l. omega (arith, ints, times_pos j p h))
times_less (negsuc j) (negsuc k) p h = (
  λ l. (let n : suc k < suc j = lt_of_mul-lt-mul_right p (omega (arith, ints, l)) in omega (arith, ints, n)),
  λ l. (let n : suc k * p < suc j * p = mul-lt-mul_of_pos_right (omega (arith, ints, l)) h in omega (arith, ints, n)),
)

-- the units of a number, by a lesser exponent
brought : (t : List ℕ) (e m : ℤ) (c : ℕ) → IsDecimal t → e +ℤ pos finest ≡ pos c → c ≤ shift_of t
    → m ≡ mantissa t *ℤ ten_to (exponent t -ℤ e) → units t ≡ m *ℤ pos (10 ^ c)
unfolding units
brought t e m c d hc le hm =
    let a : exponent t +ℤ pos finest ≡ pos (shift_of t) = shift_of_exponent t ∣ d ∣₁ in
    let less : exponent t -ℤ e ≡ pos (shift_of t - c) = omega (arith, ints, a, hc, le) in
    let split : shift_of t ≡ shift_of t - c + c = omega (arith, le) in
    ap (λ k. mantissa t *ℤ pos (10 ^ k)) split ∙ ap (λ k. mantissa t *ℤ pos k) (pow-add 10 (shift_of t - c) c)
    ∙ times_twice (mantissa t) (10 ^ (shift_of t - c)) (10 ^ c)
    ∙ ap (λ k. k *ℤ pos (10 ^ c)) (sym (hm ∙ ap (λ z. mantissa t *ℤ ten_to z) less))

pub at_lesser_exponent : ComparedAtLesserExponent
at_lesser_exponent s t e m n hs ht he hm hn =
    let a : exponent s +ℤ pos finest ≡ pos (shift_of s) = shift_of_exponent s ∣ hs ∣₁ in
    let b : exponent t +ℤ pos finest ≡ pos (shift_of t) = shift_of_exponent t ∣ ht ∣₁ in
    let c : e +ℤ pos finest ≡ pos (min (shift_of s) (shift_of t)) = omega (arith, ints, clamps, a, b, he) in
    let p = 10 ^ min (shift_of s) (shift_of t) in
    let us = brought s e m _ hs c (omega arith) hm in
    let ut = brought t e n _ ht c (omega arith) hn in
    let some = ten_pos (min (shift_of s) (shift_of t)) in (
      rw (us, ut) (times_less m n p some),
      (
        λ h. times_cancel m n p some (sym us ∙ h ∙ ut),
        λ h. us
            ∙ ap (λ z. z *ℤ pos p) h ∙ sym ut,
      ),
    )
