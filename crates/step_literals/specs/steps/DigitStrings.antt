-- Strings of digits, read as numbers times a power of ten.
use Rattle.std.specs.Prelude.{ℕ, zero, suc, Bool, true, false, not, ◌==◌, ◌&&◌, ◌+◌, ◌*◌, ◌^◌, List, [], ◌∷◌, length, slice_index_or, pos, ◌+ℤ◌, unsigned_abs, if◌then◌else◌}
use Rattle.std.specs.List.{list_all}
use Rattle.std.specs.Char.{digit_value}
use Rattle.std.specs.Str.Parse.{digits_value}
use Rattle.step_literals.specs.Bytes.{is_digit}
use Rattle.step_literals.specs.Decimals.{mantissa_digits, is_negative, exponent, finest}

-- digits without leading zeros
abbrev pub significant : List ℕ → List ℕ
significant [] = []
significant (x ∷ xs) = if x == 48 then significant xs else x ∷ xs

abbrev pub is_significant : List ℕ → Bool
is_significant [] = true
is_significant (x ∷ xs) = not (x == 48) && list_all is_digit (x ∷ xs)

abbrev pub has_digit : List ℕ → Bool
has_digit [] = false
has_digit (x ∷ xs) = true

-- the number that digits write, times a power of ten
unfoldable pub magnitude : List ℕ → ℕ → ℕ
magnitude xs shift = digits_value 10 xs * 10 ^ shift

-- the value of digit i, or 0 past the end
abbrev pub digit : List ℕ → ℕ → ℕ
digit xs i = digit_value (slice_index_or xs i 48)

-- the number that the first n digits write, with zeros past the end
abbrev pub front_value : ℕ → List ℕ → ℕ
front_value zero xs = 0
front_value (suc n) xs = front_value n xs * 10 + digit xs n

-- the number of the first n digits without the zeros at their end
abbrev pub end_of : ℕ → List ℕ → ℕ
end_of zero xs = zero
end_of (suc n) xs = if digit xs n == 0 then end_of n xs else suc n

-- the power of ten above the first digit, or 0 if there are no digits
abbrev pub top : List ℕ → ℕ → ℕ
top [] shift = 0
top (x ∷ xs) shift = length (x ∷ xs) + shift

-- the digits of a number without leading zeros, the power of ten of the last in units, and whether it is below
-- zero
abbrev pub significant_digits : List ℕ → List ℕ
significant_digits t = significant (mantissa_digits t)

abbrev pub shift_of : List ℕ → ℕ
shift_of t = unsigned_abs (exponent t +ℤ pos finest)

abbrev pub is_below_zero : List ℕ → Bool
is_below_zero t = is_negative t && has_digit (significant_digits t)
