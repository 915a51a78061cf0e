-- What a number feeds a hasher: it is the same for numbers with the same value.
use Rattle.std.specs.Prelude.{Bool, ℕ, zero, suc, ◌+◌, ◌*◌, ◌%◌, ◌^◌, ◌==◌, List, [], ◌++◌, length, ℤ, if◌then◌else◌}
use Rattle.std.specs.Hash as fed
use Rattle.step_literals.specs.declared.literal.Decimal.{Decimal}
use Rattle.step_literals.specs.Decimals.{units}
use Rattle.step_literals.specs.steps.DigitStrings.{top, end_of, front_value, significant_digits, shift_of, is_below_zero}

-- the units of a number
abbrev pub units_of : Decimal → ℤ
units_of d = units d.text.now

-- the number that the first n digits write, modulo 2^64
abbrev pub front_write : ℕ → List ℕ → List (List ℕ)
front_write n xs = fed.u64 (front_value n xs % 2 ^ 64)

-- At each nineteenth of the first n digits, the number that the digits so far write, modulo 2^64. A number of
-- 64 bits can hold nineteen digits.
abbrev pub front_writes : ℕ → List ℕ → List (List ℕ)
front_writes zero xs = []
front_writes (suc n) xs = front_writes n xs ++ (if n % 19 == 18 then front_write (suc n) xs else [])

-- A summary of the first n of at most 400 digits in one number. Its lowest 64 bits are the number that the
-- digits write, modulo 2^64. Above that is twice n, plus one if below zero. Above that is the power of ten
-- above the first digit.
abbrev pub summary : ℕ → Bool → List ℕ → ℕ → ℕ
summary n below_zero xs power =
    front_value n xs % 2 ^ 64 + 2 ^ 64 * (2 * n + (if below_zero then 1 else 0) + 2 ^ 10 * power)

-- what numbers with the same value share: the summary of their digits without the zeros at both ends, and these
-- digits
abbrev pub key : List ℕ → ℕ × List (List ℕ)
key t =
    let xs = significant_digits t in
    let n = end_of (length xs) xs in
    (summary n (is_below_zero t) xs (top xs (shift_of t)), front_writes n xs)

abbrev pub key_writes : Decimal → List (List ℕ)
key_writes d = let k = key d.text.now in fed.u128 k.0 ++ k.1
