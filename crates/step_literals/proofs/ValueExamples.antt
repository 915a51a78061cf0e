-- What words and binaries mean, by examples.
use Rattle.std.proofs.Common.{◌≡◌, true, false, [], ◌∷◌, refl, codes}
use Rattle.std.specs.declared.cmp.Ordering.TheVariants.{Less, Greater}
use Rattle.std.specs.Ordering.{nat_cmp, bool_cmp}
use Rattle.std.specs.Cmp.Lexicographic.{slice_cmp}
use Rattle.step_literals.specs.Words.{upper}
use Rattle.step_literals.specs.Bits.{digit_bits, bits_of}

-- letters have no case
point : upper (codes "cartesian_point") ≡ codes "CARTESIAN_POINT"
point = refl

-- `_` stands behind digits and letters
line_behind_digits : slice_cmp nat_cmp (upper (codes "a_b")) (upper (codes "A1")) ≡ Greater
line_behind_digits = refl

line_behind_letters : slice_cmp nat_cmp (upper (codes "az")) (upper (codes "A_")) ≡ Less
line_behind_letters = refl

-- a word stands before those that it begins
front_first : slice_cmp nat_cmp (upper (codes "Ab")) (upper (codes "aB1")) ≡ Less
front_first = refl

-- `"1A3"`: 1010 0011 without the first bit
seven_bits : bits_of (codes "\"1A3\"") ≡ false ∷ true ∷ false ∷ false ∷ false ∷ true ∷ true ∷ []
unfolding digit_bits
seven_bits = refl

-- `"23"` and `"27"`: two bits, both 1, whatever the unused bits are
ones : bits_of (codes "\"23\"") ≡ true ∷ true ∷ []
unfolding digit_bits
ones = refl

ones_again : bits_of (codes "\"27\"") ≡ true ∷ true ∷ []
unfolding digit_bits
ones_again = refl

-- `"0"` has no bits
no_bits : bits_of (codes "\"0\"") ≡ []
unfolding digit_bits
no_bits = refl

-- digits have no case
small_digit : bits_of (codes "\"0f\"") ≡ bits_of (codes "\"0F\"")
unfolding digit_bits
small_digit = refl

-- `"3F"` is one bit, and stands before `"23"`, which it begins
one_first : slice_cmp bool_cmp (bits_of (codes "\"3F\"")) (bits_of (codes "\"23\"")) ≡ Less
unfolding digit_bits
one_first = refl

-- `"092A"`: twelve bits
twelve_bits : bits_of (codes "\"092A\"") ≡ true ∷ false ∷ false ∷ true ∷ false ∷ false ∷ true ∷ false ∷ true ∷ false
    ∷ true ∷ false ∷ []
unfolding digit_bits
twelve_bits = refl

-- `"31"`: one digit, of which three bits are left out
one_bit : bits_of (codes "\"31\"") ≡ true ∷ []
unfolding digit_bits
one_bit = refl
