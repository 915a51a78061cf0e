-- The value of a binary: its bits (ISO 10303-21, 6.4.6).
use Rattle.std.specs.Prelude.{ℕ, ◌-◌, ◌/◌, ◌%◌, ◌^◌, ◌==◌, Bool, List, [], ◌∷◌, ◌++◌, length, drop, map, slice_index, slice_range}
use Rattle.std.specs.List.{flat_map}
use Rattle.std.specs.Char.{digit_value}
use Rattle.std.specs.Hash as fed

-- the bit of a hexadecimal digit at a place from 0 to 3; place 0 is the greatest bit
abbrev pub digit_bit : ℕ → ℕ → Bool
digit_bit digit place = digit_value digit / 2 ^ (3 - place) % 2 == 1

-- the four bits of a hexadecimal digit, the greatest first
unfoldable pub digit_bits : ℕ → List Bool
digit_bits digit = map (digit_bit digit) (0 ∷ 1 ∷ 2 ∷ 3 ∷ [])

-- the digit after the first quote: the number of first bits that are left out
abbrev pub unused_bits : List ℕ → ℕ
unused_bits t = digit_value (slice_index t 1)

-- the hexadecimal digits, from after that digit up to the last quote
abbrev pub hex_digits : List ℕ → List ℕ
hex_digits t = slice_range t 2 (length t - 1)

-- the bits of a binary, given its spelling
abbrev pub bits_of : List ℕ → List Bool
bits_of t = drop (unused_bits t) (flat_map digit_bits (hex_digits t))

-- what a hasher is fed: each bit as a byte, and then a byte that is no bit
abbrev pub fed_bits : List Bool → fed.HashWrites
fed_bits bits = flat_map fed.bool bits ++ fed.u8 255
