-- The number at the front of a text is found.
use Rattle.std.proofs.Common.{◌≡◌, ℕ, ◌+◌, ◌≤◌, ◌<◌, true, false, List, [], ◌∷◌, length, get_or, take, drop, refl, arith, length-drop, ◌⊎◌, inl, inr}
use Rattle.std.specs.Prelude.{◌==◌}
use Rattle.std.specs.List.{prefix_len}
use Rattle.std.specs.Str.Parse.{digits_value}
use Rattle.std.proofs.lemmas.Bool.{false≢true, cases_Bool, cases_eq, cases_lt, eqb-true}
use Rattle.std.proofs.lemmas.List.Sums.{prefix_len-le-length}
use Rattle.step_literals.specs.Bytes.{is_digit}
use Rattle.step_literals.specs.Tokens.{integer, real, sign_len, is_sign, is_e, IsNext, NoneAt}
use Rattle.step_literals.specs.Numbers.{IsShortNumber, IsLongestExponent, StartsNumber, exponent_digits}
use Rattle.step_literals.proofs.Runs.{stops_at}
use Rattle.step_literals.proofs.NumberCuts.{number_none, integer_at, real_at, exponent_at, exponent_no_e, exponent_no_digits}
use Rattle.step_literals.proofs.Choices.{Decided}

sign_one : (b : ℕ) (bs : List ℕ) → (is_sign b ≡ true) ⊎ (is_sign b ≡ false) → sign_len (b ∷ bs) ≤ length (b ∷ bs)
sign_one b bs (inl h) = rw h (omega arith)
sign_one b bs (inr h) = rw h (omega arith)

sign_within : (l : List ℕ) → sign_len l ≤ length l
sign_within [] = omega arith
sign_within (b ∷ bs) = sign_one b bs (cases_Bool (is_sign b))

pub some_there : (l : List ℕ) (b : ℕ) → get_or l 0 0 ≡ b → 0 < b → 0 < length l
some_there [] b h pos = absurd (omega (arith, h, pos))
some_there (x ∷ xs) b h pos = omega arith

e_there : (l : List ℕ) → is_e (get_or l 0 0) ≡ true → 0 < length l
e_there [] h = absurd (false≢true h)
e_there (x ∷ xs) h = omega arith

-- the longest exponent, none where there is none
abbrev ExponentAt : List ℕ → Type 0
ExponentAt l = (n : ℕ) × (n ≤ length l) × IsLongestExponent (take n l) (drop n l)

module _ (l : List ℕ) where
  exponent_run : ℕ
  exponent_run = prefix_len is_digit (drop (sign_len (drop 1 l)) (drop 1 l))

  exponent_of : (is_e (get_or l 0 0) ≡ true) ⊎ (is_e (get_or l 0 0) ≡ false) → Decided (exponent_run ≡ 0) → ExponentAt l
  unfolding exponent_run
  exponent_of (inr h) d = (0, omega arith, exponent_no_e l (λ some. h))
  exponent_of (inl h) (inl zero) = (
    0,
    omega arith,
    exponent_no_digits l (drop 1 l)
        (drop (sign_len (drop 1 l)) (drop 1 l)) (sign_len (drop 1 l)) exponent_run refl refl refl refl zero,
  )
  exponent_of (inl h) (inr pos) =
      let r = drop 1 l in
      let u = drop (sign_len r) r in (
        1 + sign_len r + exponent_run,
        omega (
          arith,
          e_there l h,
          length-drop 1 l,
          sign_within r,
          length-drop (sign_len r) r,
          prefix_len-le-length
              is_digit u,
        ),
        exponent_at l r u (sign_len r) exponent_run (e_there l h) h refl refl refl refl (omega (arith, pos)),
      )

exponent_found : (l : List ℕ) → ExponentAt l
exponent_found l = exponent_of l (cases_Bool (is_e (get_or l 0 0))) (cases_eq (exponent_run l) 0)

-- a number stands at the front, or no token does
abbrev pub NumberAt : List ℕ → Type 0
NumberAt l = (n : ℕ) × (n ≤ length l) × (IsNext integer (take n l) (drop n l) ⊎ IsNext real (take n l) (drop n l))

module _ (l : List ℕ) (start : StartsNumber l) where
  unsigned : List ℕ
  unsigned = drop (sign_len l) l

  whole : ℕ
  whole = prefix_len is_digit (drop (sign_len l) l)

  behind : List ℕ
  behind = drop whole unsigned

  fits : sign_len l + whole + length behind ≡ length l
  unfolding unsigned whole behind
  fits = omega (
    arith,
    sign_within l,
    length-drop (sign_len l) l,
    prefix_len-le-length is_digit (drop (sign_len l) l),
    length-drop whole (drop (sign_len l) l),
  )

  real_found : (whole ≡ 0 → ⊥) → (get_or behind 0 0 == 46) ≡ true → NumberAt l
  unfolding unsigned whole behind
  real_found pos dot =
      let tail = drop 1 behind in
      let part = prefix_len is_digit tail in
      let after = drop part tail in
      let x = exponent_found after in
      let point : get_or behind 0 0 ≡ 46 = eqb-true (get_or behind 0 0) 46 dot in
      let some : 0 < length behind = some_there behind 46 point (omega arith) in (
        sign_len l + whole + 1 + part + x.0,
        omega (arith, fits, some, length-drop 1 behind, prefix_len-le-length is_digit tail, length-drop part tail, x.1),
        inr (real_at l unsigned behind tail after (sign_len l) whole part x.0 refl refl refl pos refl some point refl
            refl refl x.2),
      )

  number_of : Decided (whole ≡ 0) → ((get_or behind 0 0 == 46) ≡ true) ⊎ ((get_or behind 0 0 == 46) ≡ false)
      → NumberAt l ⊎ NoneAt l
  unfolding unsigned whole behind
  number_of (inl zero) d = inr (number_none l unsigned (sign_len l) whole start refl refl refl zero)
  number_of (inr pos) (inl dot) = inl (real_found pos dot)
  number_of (inr pos) (inr no_dot) =
      inl (
        sign_len l + whole,
        omega (arith, fits),
        inl (integer_at l unsigned behind (sign_len l) whole refl refl refl
            pos refl (stops_at behind (λ b. b == 46) (λ some. no_dot))),
      )

  pub number_or_none : NumberAt l ⊎ NoneAt l
  number_or_none = number_of (cases_eq whole 0) (cases_Bool (get_or behind 0 0 == 46))

-- within the limits, or beyond
pub short_or_not : (t : List ℕ) → Decided (IsShortNumber t)
short_or_not t = by (cases_lt 400 (length t)) (cases_lt 999999 (digits_value 10 (exponent_digits t)))
  where
    by : (400 < length t) ⊎ (length t ≤ 400) → (999999 < digits_value 10 (exponent_digits t))
        ⊎ (digits_value 10 (exponent_digits t) ≤ 999999) → Decided (IsShortNumber t)
    by (inl long) x = inr (λ s. omega (arith, long, s.short))
    by (inr short) (inl large) = inr (λ s. omega (arith, large, s.exponent))
    by (inr short) (inr small) = inl (record { short = short; exponent = small })
