-- Lemmas for the laws of the traits: numbers by their digits without zeros at both ends. Each number has
-- exactly one such form.
use Rattle.std.proofs.Common.{◌≡◌, ℕ, zero, suc, ◌+◌, ◌-◌, ◌*◌, ◌%◌, ◌^◌, ◌<◌, ◌≤◌, Bool, true, false, cond, List, [], ◌∷◌, length, pos, ◌*ℤ◌, refl, sym, ap, ◌∙◌, arith, inl, inr}
use Rattle.std.specs.Prelude.{◌⊎◌, ◌==◌, ◌&&◌}
use Rattle.std.specs.List.{filter, list_all}
use Rattle.std.specs.Str.Parse.{digits_value}
use Rattle.std.proofs.lemmas.Nat.{pow-add}
use Rattle.std.proofs.lemmas.Int.{ints}
use Rattle.std.proofs.lemmas.Bool.{cases_lt}
use Rattle.std.proofs.lemmas.Bool.Decides.{nat_tests}
use Rattle.std.proofs.Math.Nat.{pow-suc}
use Rattle.step_literals.specs.Bytes.{is_digit}
use Rattle.step_literals.specs.Decimals.{mantissa_digits, mantissa_text, is_negative, signed, units}
use Rattle.step_literals.specs.steps.DigitStrings.{significant, is_significant, has_digit, magnitude, digit, front_value, end_of, significant_digits, shift_of, is_below_zero}
use Rattle.step_literals.specs.steps.MagnitudeLemmas.{digit_small, ten_pos, front_whole, magnitude_leads, magnitude_none, significant_value, significant_is}

-- a sign and a product
pub signed_times : (b : Bool) (m k : ℕ) → signed b m *ℤ pos k ≡ signed b (m * k)
signed_times false m k = refl
signed_times true zero k = let z : 0 * k ≡ 0 = omega arith in rw z refl
signed_times true (suc m) k = refl

pub signed_same : (s t : Bool) (m n : ℕ) → signed s m ≡ signed t n → (m ≡ n) × (0 < m → s ≡ t)
signed_same true true m n e = (omega (arith, ints, e), λ _. refl)
signed_same true false m n e = (omega (arith, ints, e), λ h. absurd (omega (arith, ints, e, h)))
signed_same false true m n e = (omega (arith, ints, e), λ h. absurd (omega (arith, ints, e, h)))
signed_same false false m n e = (omega (arith, ints, e), λ _. refl)

below_zero : (b : Bool) (xs : List ℕ) (s : ℕ) → signed b (magnitude xs s) ≡ signed (b && has_digit xs) (magnitude xs s)
below_zero false xs s = refl
below_zero true (x ∷ xs) s = refl
below_zero true [] s = rw (magnitude_none s) refl

value_kept : (xs : List ℕ) (s : ℕ) → magnitude xs s ≡ magnitude (significant xs) s
unfolding magnitude
value_kept xs s = ap (λ v. v * 10 ^ s) (sym (significant_value xs))

units_are : (t : List ℕ) → units t ≡ signed (is_negative t) (magnitude (mantissa_digits t) (shift_of t))
unfolding units magnitude
units_are t = signed_times (is_negative t) (digits_value 10 (mantissa_digits t)) (10 ^ shift_of t)

-- the units of a number, by its digits without leading zeros
pub units_by_digits : (t : List ℕ) → units t ≡ signed (is_below_zero t) (magnitude (significant_digits t) (shift_of t))
units_by_digits t =
    units_are t ∙ ap (signed (is_negative t)) (value_kept (mantissa_digits t) (shift_of t)) ∙ below_zero (is_negative t)
    (significant_digits t) (shift_of t)

all_filter_one : (x : ℕ) (xs : List ℕ) (b : Bool) → is_digit x ≡ b → list_all is_digit (filter is_digit xs) ≡ true
    → list_all is_digit (cond b (x ∷ filter is_digit xs) (filter is_digit xs)) ≡ true
all_filter_one x xs true h ih = rw (h, ih) refl
all_filter_one x xs false h ih = ih

all_filter : (xs : List ℕ) → list_all is_digit (filter is_digit xs) ≡ true
all_filter [] = refl
all_filter (x ∷ xs) = all_filter_one x xs (is_digit x) refl (all_filter xs)

pub digits_significant : (t : List ℕ) → is_significant (significant_digits t) ≡ true
digits_significant t = significant_is (mantissa_digits t) (all_filter (mantissa_text t))

pub no_tens : (m q : ℕ) → m ≡ q * 10 → m % 10 ≡ 0
no_tens m q h = omega (arith, h)

-- a number has only one normal form
pub normal_unique : (m n a b : ℕ) → 0 < m % 10 → 0 < n % 10 → m * 10 ^ a ≡ n * 10 ^ b → (m ≡ n) × (a ≡ b)
normal_unique m n zero zero hm hn e = (omega (arith, e), refl)
normal_unique m n zero (suc b) hm hn e =
    let t = rw (pow-suc 10 b) at e in let u : m ≡ n * 10 ^ b * 10 = omega (arith, t) in
    absurd (omega (arith, no_tens m (n * 10 ^ b) u, hm))
normal_unique m n (suc a) zero hm hn e =
    let t = rw (pow-suc 10 a) at e in let u : n ≡ m * 10 ^ a * 10 = omega (arith, t) in
    absurd (omega (arith, no_tens n (m * 10 ^ a) u, hn))
normal_unique m n (suc a) (suc b) hm hn e =
    let t = rw (pow-suc 10 a, pow-suc 10 b) at e in let u : m * 10 ^ a ≡ n * 10 ^ b = omega (arith, t) in
    let h = normal_unique m n a b hm hn u in (h.0, ap suc h.1)

zero_test : (n : ℕ) → (n == 0) ≡ true → n ≡ 0
zero_test n h = grind (arith, nat_tests)

nonzero_test : (n : ℕ) → (n == 0) ≡ false → n ≡ 0 → ⊥
nonzero_test n h e = grind (arith, nat_tests)

-- all digits from `end` to n are zeros, and the digit before `end`, if any, isn't
record IsEnd (xs : List ℕ) (n end : ℕ) : Type 0 where
  within : end ≤ n
  value : (k : ℕ) → end ≤ k → k ≤ n → front_value k xs ≡ front_value end xs * 10 ^ (k - end)
  last : 0 < end → 0 < front_value end xs % 10

-- the value up to the end, and with one zero more
one_more : (n : ℕ) (xs : List ℕ) → IsEnd xs n (end_of n xs) → digit xs n ≡ 0 → (k : ℕ) → end_of n xs ≤ k → k ≤ suc n
    → (k ≤ n) ⊎ (suc n ≤ k) → front_value k xs ≡ front_value (end_of n xs) xs * 10 ^ (k - end_of n xs)
one_more n xs ih z k le lt (inl h) = ih.value k le h
one_more n xs ih z k le lt (inr h) =
    let e : k ≡ suc n = omega (arith, lt, h) in
    let d : suc n - end_of n xs ≡ suc (n - end_of n xs) = omega (arith, ih.within) in
    rw (e, d, pow-suc) (omega (arith, z, ih.value n ih.within (omega arith)))

le_cases : (k n : ℕ) → (k ≤ n) ⊎ (suc n ≤ k)
le_cases k n = elim (cases_lt n k) [ inl h ↦ inr h | inr h ↦ inl h ]

same_place : (n k : ℕ) (xs : List ℕ) → n ≤ k → k ≤ n → front_value k xs ≡ front_value n xs * 10 ^ (k - n)
same_place n k xs h g = let e : k ≡ n = omega (arith, h, g) in let z : n - n ≡ 0 = omega arith in
    rw (e, z) (omega arith)

end_is_one : (n : ℕ) (xs : List ℕ) → ((j : ℕ) → digit xs j ≤ 9) → (t : Bool) → (digit xs n == 0) ≡ t
    → IsEnd xs n (end_of n xs) → IsEnd xs (suc n) (cond t (end_of n xs) (suc n))
end_is_one n xs small true h ih = record {
  within = omega (arith, ih.within);
  value = λ k le lt. one_more n xs ih (zero_test (digit xs n) h) k le lt (le_cases k n);
  last = ih.last;
}
end_is_one n xs small false h ih = record {
  within = omega arith;
  value = λ k le lt. same_place (suc n) k xs le lt;
  last = λ _. (let some : digit xs n ≡ 0 → ⊥ = nonzero_test (digit xs n) h in omega (arith, some, small n));
}

end_is : (n : ℕ) (xs : List ℕ) → ((j : ℕ) → digit xs j ≤ 9) → IsEnd xs n (end_of n xs)
end_is zero xs small = record {
  within = omega arith;
  value = λ k le lt. same_place zero k xs le lt;
  last = λ h. absurd (omega (arith, h));
}
end_is (suc n) xs small = end_is_one n xs small (digit xs n == 0) refl (end_is n xs small)

module _ (xs : List ℕ) (s : ℕ) (sig : is_significant xs ≡ true) where
  is_end : IsEnd xs (length xs) (end_of (length xs) xs)
  is_end = end_is (length xs) xs (digit_small xs sig)

  -- the magnitude, by the digits without the zeros at their end
  pub magnitude_end : magnitude xs s ≡ front_value (end_of (length xs) xs) xs * 10 ^
      (length xs - end_of (length xs) xs + s)
  unfolding magnitude
  magnitude_end =
      let v : digits_value 10 xs ≡ front_value (end_of (length xs) xs) xs * 10 ^ (length xs - end_of (length xs) xs) =
      sym (front_whole xs) ∙ is_end.value (length xs) is_end.within (omega arith) in
      rw (v, pow-add) (omega arith)

  pub end_value : (k : ℕ) → end_of (length xs) xs ≤ k → k ≤ length xs → front_value k xs ≡ front_value
      (end_of (length xs) xs) xs * 10 ^ (k - end_of (length xs) xs)
  end_value = is_end.value

  pub end_within : end_of (length xs) xs ≤ length xs
  end_within = is_end.within

  pub end_last : 0 < end_of (length xs) xs → 0 < front_value (end_of (length xs) xs) xs % 10
  end_last = is_end.last

  some_digits : (n m : ℕ) → m ≡ front_value n xs * 10 ^ (length xs - n + s) → 0 < m → 0 < n
  some_digits zero m e h = absurd (omega (arith, e, h))
  some_digits (suc n) m e h = omega arith

  pub end_some : 0 < magnitude xs s → 0 < end_of (length xs) xs
  end_some h = some_digits (end_of (length xs) xs) (magnitude xs s) magnitude_end h

-- a number with significant digits isn't 0
pub magnitude_some : (x : ℕ) (xs : List ℕ) (s : ℕ) → is_significant (x ∷ xs) ≡ true → 0 < magnitude (x ∷ xs) s
magnitude_some x xs s h = omega (arith, magnitude_leads x xs s h, ten_pos (length xs + s))
