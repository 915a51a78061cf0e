-- A number that is spelt as an integer is worth a whole number.
use Rattle.std.specs.Prelude.{◌≡◌, ℕ, ◌+◌, ◌==◌, ◌||◌, not, ℤ, pos, ◌+ℤ◌, ◌-ℤ◌, ◌*ℤ◌, Bool, true, false, cond, List, [], ◌∷◌, length, take, drop}
use Rattle.std.specs.List.{list_any, prefix_len}
use Rattle.std.specs.Str.Parse.{digits_value}
use Rattle.std.proofs.Common.{refl, ap, ◌∙◌, arith}
use Rattle.std.proofs.Math.Seq.{take-length}
use Rattle.std.proofs.Math.ListN.{drop_of_length-le}
use Rattle.step_literals.specs.Tokens.{is_e, sign_len}
use Rattle.step_literals.specs.Numbers.{exponent_text}
use Rattle.step_literals.specs.Decimals.{mantissa_text, part_digits, is_negative, signed, mantissa, exponent, ten_to, finest, units, IsWorth}
use Rattle.conformance.specs.ParameterFits.{is_integer}

neither_first : (a b : Bool) → (a || b) ≡ false → a ≡ false
neither_first true b e = absurd (cc)
neither_first false b e = refl

neither_second : (a b : Bool) → (a || b) ≡ false → b ≡ false
neither_second true b e = absurd (cc)
neither_second false b e = e

not_false : (b : Bool) → not b ≡ true → b ≡ false
not_false true e = absurd (cc)
not_false false e = refl

-- a test that stops at none of them
unstopped : (stops passes : ℕ → Bool) (t : List ℕ) → ((b : ℕ) → stops b ≡ false → passes b ≡ true)
    → list_any stops t ≡ false → prefix_len passes t ≡ length t
unstopped stops passes [] h e = refl
unstopped stops passes (b ∷ t) h e =
    ap (λ x. cond x (1 + prefix_len passes t) 0) (h b (neither_first (stops b) (list_any stops t) e))
    ∙ omega (arith, unstopped stops passes t h (neither_second (stops b) (list_any stops t) e))

module _ (t : List ℕ) (plain : list_any (λ b. b == 46 || is_e b) t ≡ false) where
  no_e : prefix_len (λ b. not (is_e b)) t ≡ length t
  no_e =
      unstopped (λ b. b == 46 || is_e b) (λ b. not (is_e b)) t
      (λ b h. ap not (neither_second (b == 46) (is_e b) h)) plain

  no_point : prefix_len (λ b. not (b == 46)) t ≡ length t
  no_point =
      unstopped (λ b. b == 46 || is_e b) (λ b. not (b == 46)) t
      (λ b h. ap not (neither_first (b == 46) (is_e b) h)) plain

  all_mantissa : mantissa_text t ≡ t
  all_mantissa = ap (λ n. take n t) no_e ∙ take-length t

  no_exponent : exponent_text t ≡ []
  no_exponent = drop_of_length-le t (omega (arith, no_e))

  no_part : part_digits t ≡ []
  no_part =
      ap (λ m. drop (1 + prefix_len (λ b. not (b == 46)) m) m) all_mantissa
      ∙ drop_of_length-le t (omega (arith, no_point))

  exponent_is_zero : exponent t ≡ pos 0
  exponent_is_zero =
      ap (λ x. signed (is_negative x) (digits_value 10 (drop (sign_len x) x)) -ℤ pos (length (part_digits t))) no_exponent
      ∙ ap (λ ds. pos 0 -ℤ pos (length ds)) no_part

  worth_mantissa : IsWorth t (mantissa t)
  unfolding units
  worth_mantissa =
      let none : 0 + finest ≡ finest = omega arith in
      ap (λ e. mantissa t *ℤ ten_to (e +ℤ pos finest)) exponent_is_zero
      ∙ ap (λ n. mantissa t *ℤ ten_to (pos n)) none

pub whole_worth : (t : List ℕ) → is_integer t ≡ true → IsWorth t (mantissa t)
whole_worth t h = worth_mantissa t (not_false (list_any (λ b. b == 46 || is_e b) t) h)
