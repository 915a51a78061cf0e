-- Digits at the front of a text, read one by one.
use Rattle.std.proofs.Common.{◌≡◌, ℕ, ◌+◌, ◌*◌, ◌-◌, ◌^◌, ◌≤◌, ◌<◌, Option, Some, None, subst, true, false, List, [], ◌∷◌, ◌++◌, length, get_or, take, refl, sym, ap, ◌∙◌, arith, add-one}
use Rattle.std.specs.Char.{digit_value}
use Rattle.std.specs.List.{prefix_len}
use Rattle.std.specs.Option.{SomeIff}
use Rattle.std.specs.Str.Parse.{digits_value, digits_value_after}
use Rattle.std.proofs.Math.Seq.{take-suc}
use Rattle.std.proofs.lemmas.Bool.{false≢true}
use Rattle.std.proofs.lemmas.List.Sums.{prefix_len-le-length, prefix_len_passes, prefix_len_stops}
use Rattle.step_literals.specs.Bytes.{is_digit}
use Rattle.step_literals.proofs.DigitLemmas.{value_more}

after_more : (a : ℕ) (xs : List ℕ) (d : ℕ)
    → digits_value_after 10 a (xs ++ d ∷ []) ≡ digits_value_after 10 a xs * 10 + digit_value d
after_more a [] d = refl
after_more a (x ∷ xs) d = after_more (a * 10 + digit_value x) xs d

digit_is : (b : ℕ) → is_digit b ≡ true → digit_value b ≡ b - 48
digit_is b h = omega (arith, value_more (b ∷ []) 0 0 (0 * 10 + digit_value b) (h, tt) (omega arith) refl)

-- so many digits are read
module _ (l : List ℕ) (n : ℕ) (so_far : n ≤ prefix_len is_digit l) where
  pub digit_more : n < length l → is_digit (get_or l n 0) ≡ true → n + 1 ≤ prefix_len is_digit l
  digit_more lt h = omega (
    arith,
    so_far,
    λ (e : n ≡ prefix_len is_digit l). false≢true (sym (prefix_len_stops is_digit l 0 (omega (arith, e, lt)))
        ∙ ap (λ k. is_digit (get_or l k 0)) (sym e) ∙ h),
  )

  pub digits_end : (n < length l → is_digit (get_or l n 0) ≡ false) → n ≡ prefix_len is_digit l
  digits_end h = omega (
    arith,
    so_far,
    prefix_len-le-length is_digit l,
    λ (lt : n < prefix_len is_digit l). false≢true (sym (h (omega (arith, lt, prefix_len-le-length is_digit l)))
        ∙ prefix_len_passes is_digit l n 0 lt),
  )

-- one more digit, by the number that is read
pub digit_read : (l : List ℕ) (n v : ℕ) → v ≡ digits_value 10 (take n l) → n < length l
    → is_digit (get_or l n 0) ≡ true → v * 10 + (get_or l n 0 - 48) ≡ digits_value 10 (take (n + 1) l)
digit_read l n v e lt h =
    (λ i. e i * 10 + sym (digit_is (get_or l n 0) h) i) ∙ sym (after_more 0 (take n l) (get_or l n 0))
    ∙ ap (digits_value 10) (sym (take-suc l n 0 lt) ∙ ap (λ k. take k l) (sym (add-one n)))

-- the number of some digits, if there is one
pub number_some : (o : Option ℕ) (v : ℕ) (ds : List ℕ) → o ≡ Some v
    → SomeIff o (digits_value 10 ds < 2 ^ 64) (digits_value 10 ds) → (v ≡ digits_value 10 ds) × (v < 2 ^ 64)
number_some o v ds e h =
    let g = subst (λ (x : Option ℕ). SomeIff x (digits_value 10 ds < 2 ^ 64) (digits_value 10 ds)) e h in
    (g.1, omega (arith, g.0, g.1))

pub number_large : (o : Option ℕ) (ds : List ℕ) → o ≡ None
    → SomeIff o (digits_value 10 ds < 2 ^ 64) (digits_value 10 ds) → 2 ^ 64 ≤ digits_value 10 ds
number_large o ds e h =
    let g = subst (λ (x : Option ℕ). SomeIff x (digits_value 10 ds < 2 ^ 64) (digits_value 10 ds)) e h in
    omega (arith, g)
