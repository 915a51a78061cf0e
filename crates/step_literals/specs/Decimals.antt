-- The value of a number (ISO 10303-21, 6.4.1 and 6.4.2): m * 10 ^ e, where m and e are whole numbers.
use Rattle.std.specs.Prelude.{◌≡◌, ℕ, Bool, false, not, ◌==◌, ◌+◌, ◌^◌, ◌↔◌, List, [], ◌∷◌, length, take, drop, ℤ, pos, neg_ℤ, ◌+ℤ◌, ◌-ℤ◌, ◌*ℤ◌, ◌<ℤ◌, unsigned_abs, if◌then◌else◌}
use Rattle.std.specs.List.{prefix_len, filter}
use Rattle.std.specs.Int.{int_min}
use Rattle.std.specs.Str.Parse.{digits_value}
use Rattle.step_literals.specs.Bytes.{is_digit}
use Rattle.step_literals.specs.Tokens.{is_e}
use Rattle.step_literals.specs.Numbers.{exponent_text, exponent_digits}
use Rattle.step_literals.specs.Literals.{IsDecimal}

-- the bytes before the `E`
abbrev pub mantissa_text : List ℕ → List ℕ
mantissa_text t = take (prefix_len (λ b. not (is_e b)) t) t

-- the digits before the `E`, without the sign and the point
abbrev pub mantissa_digits : List ℕ → List ℕ
mantissa_digits t = filter is_digit (mantissa_text t)

-- the digits after the point
abbrev pub part_digits : List ℕ → List ℕ
part_digits t = drop (1 + prefix_len (λ b. not (b == 46)) (mantissa_text t)) (mantissa_text t)

-- the text begins with `-`
abbrev pub is_negative : List ℕ → Bool
is_negative [] = false
is_negative (b ∷ bs) = b == 45

abbrev pub signed : Bool → ℕ → ℤ
signed negative n = if negative then neg_ℤ (pos n) else pos n

-- the whole number that digits write after a sign
abbrev pub signed_value : List ℕ → List ℕ → ℤ
signed_value sign ds = signed (is_negative sign) (digits_value 10 ds)

-- m: the whole number that the digits before the exponent write, with its sign
abbrev pub mantissa : List ℕ → ℤ
mantissa t = signed (is_negative t) (digits_value 10 (mantissa_digits t))

-- e: the written exponent, or 0 if none is written, less the number of digits after the point
abbrev pub exponent : List ℕ → ℤ
exponent t = signed (is_negative (exponent_text t)) (digits_value 10 (exponent_digits t)) -ℤ pos
    (length (part_digits t))

-- 10 ^ e, for an e that isn't negative
abbrev pub ten_to : ℤ → ℤ
ten_to e = pos (10 ^ unsigned_abs e)

-- a unit is 10 ^ -1,000,400: numbers within the limits are whole numbers of units
unfoldable pub finest : ℕ
finest = 1000400

-- the value of a number, in units
unfoldable pub units : List ℕ → ℤ
units t = mantissa t *ℤ ten_to (exponent t +ℤ pos finest)

-- a whole number, negated if `is_turned`
abbrev pub turned : Bool → ℤ → ℤ
turned is_turned z = if is_turned then neg_ℤ z else z

-- u units are the whole number n
abbrev pub IsWhole : ℤ → ℤ → Type 0
IsWhole u n = u ≡ n *ℤ ten_to (pos finest)

-- the value of a number is the whole number n
abbrev pub IsWorth : List ℕ → ℤ → Type 0
IsWorth t n = IsWhole (units t) n

-- Two numbers compare like their mantissas once both are brought to the lesser exponent.
abbrev pub ComparedAtLesserExponent : Type 0
ComparedAtLesserExponent =
    (s t : List ℕ) (e m n : ℤ) → IsDecimal s → IsDecimal t → e ≡ int_min (exponent s) (exponent t)
    → m ≡ mantissa s *ℤ ten_to (exponent s -ℤ e) → n ≡ mantissa t *ℤ ten_to (exponent t -ℤ e)
    → ((units s <ℤ units t) ↔ (m <ℤ n)) × ((units s ≡ units t) ↔ (m ≡ n))
