-- The limits of a number, and where it ends.
use Rattle.std.specs.Prelude.{◌≡◌, ℕ, ◌+◌, ◌≤◌, true, not, ◌||◌, List, [], ◌∷◌, ◌++◌, length, drop}
use Rattle.std.specs.List.{prefix_len}
use Rattle.std.specs.Str.Parse.{digits_value}
use Rattle.step_literals.specs.Bytes.{is_digit}
use Rattle.step_literals.specs.Tokens.{is_e, is_sign, sign_len, IsExponent}

-- the bytes after the `E` of a number; empty if it has no `E`
abbrev pub exponent_text : List ℕ → List ℕ
exponent_text t = drop (1 + prefix_len (λ b. not (is_e b)) t) t

-- the digits of the written exponent, without the sign
abbrev pub exponent_digits : List ℕ → List ℕ
exponent_digits t = drop (sign_len (exponent_text t)) (exponent_text t)

-- A number is within the limits if it has at most 400 bytes, and a written exponent from -999,999 to 999,999.
pub record IsShortNumber (t : List ℕ) : Type 0 where
  pub short : length t ≤ 400
  pub exponent : digits_value 10 (exponent_digits t) ≤ 999999

-- `front` is the longest exponent at the start of a text
pub record IsLongestExponent (front back : List ℕ) : Type 0 where
  pub is : IsExponent front
  pub longest : (other rest : List ℕ) → other ++ rest ≡ front ++ back → IsExponent other → length other ≤ length front

-- the text begins like a number
abbrev pub StartsNumber : List ℕ → Type 0
StartsNumber [] = ⊥
StartsNumber (b ∷ bs) = (is_digit b || is_sign b) ≡ true
