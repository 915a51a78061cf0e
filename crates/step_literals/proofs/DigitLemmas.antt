-- Digits, read one by one.
use Rattle.std.proofs.Common.{◌≡◌, ℕ, ◌+◌, ◌*◌, ◌-◌, ◌≤◌, ◌<◌, true, List, [], ◌∷◌, length, get_or, drop, sym, ap, ◌∙◌, arith, suc, add-one}
use Rattle.std.specs.Char.{digit_value}
use Rattle.std.specs.Str.Parse.{digits_value_after}
use Rattle.std.proofs.lemmas.Bool.Decides.{nat_tests}
use Rattle.std.proofs.Math.ListN.{drop_of_length-le}
use Rattle.std.proofs.Math.Seq.{drop-cons}
use Rattle.step_literals.specs.Bytes.{is_digit, Each}
use Rattle.step_literals.proofs.Runs.{each_at}

-- more digits make no lesser number
pub value_grows : (n : ℕ) (ds : List ℕ) → n ≤ digits_value_after 10 n ds
value_grows n [] = omega arith
value_grows n (d ∷ ds) = omega (arith, value_grows (n * 10 + digit_value d) ds)

digit_is : (b : ℕ) → is_digit b ≡ true → (48 ≤ b) × (digit_value b ≡ b - 48)
digit_is b h = (grind (arith, nat_tests), grind (arith, nat_tests))

-- one more digit is read
module _ (ds : List ℕ) (i n total : ℕ) (digits : Each is_digit ds) (lt : i < length ds)
    (so_far : digits_value_after 10 n (drop i ds) ≡ total) where
  pub digit_at : 48 ≤ get_or ds i 0
  digit_at = (digit_is (get_or ds i 0) (each_at is_digit ds i digits lt)).0

  pub value_more : digits_value_after 10 (n * 10 + (get_or ds i 0 - 48)) (drop (i + 1) ds) ≡ total
  value_more =
      let head : drop i ds ≡ get_or ds i 0 ∷ drop (suc i) ds = drop-cons ds i 0 lt in
      let digit = (digit_is (get_or ds i 0) (each_at is_digit ds i digits lt)).1 in
      (λ k. digits_value_after 10 (n * 10 + sym digit k) (drop (add-one i k) ds))
      ∙ sym (ap (digits_value_after 10 n) head) ∙ so_far

  pub value_bound : n * 10 + (get_or ds i 0 - 48) ≤ total
  value_bound = omega (arith, value_grows (n * 10 + (get_or ds i 0 - 48)) (drop (i + 1) ds), value_more)

pub value_whole : (ds : List ℕ) (i n total : ℕ) → length ds ≤ i → digits_value_after 10 n (drop i ds) ≡ total
    → n ≡ total
value_whole ds i n total h e = sym (ap (digits_value_after 10 n) (drop_of_length-le ds h)) ∙ e
