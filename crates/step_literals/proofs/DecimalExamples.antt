-- What numbers are worth, by examples.
use Rattle.std.proofs.Common.{◌≡◌, refl, codes, pos, negsuc}
use Rattle.step_literals.specs.Decimals.{mantissa, exponent}

-- `1.` is 1 * 10 ^ 0
one_mantissa : mantissa (codes "1.") ≡ pos 1
one_mantissa = refl

one_exponent : exponent (codes "1.") ≡ pos 0
one_exponent = refl

-- `1.0E0` is 10 * 10 ^ -1
digit_mantissa : mantissa (codes "1.0E0") ≡ pos 10
digit_mantissa = refl

digit_exponent : exponent (codes "1.0E0") ≡ negsuc 0
digit_exponent = refl

-- `10.E-1` is 10 * 10 ^ -1
ten_mantissa : mantissa (codes "10.E-1") ≡ pos 10
ten_mantissa = refl

ten_exponent : exponent (codes "10.E-1") ≡ negsuc 0
ten_exponent = refl

-- `-0.025E+3` is -25 * 10 ^ 0
signed_mantissa : mantissa (codes "-0.025E+3") ≡ negsuc 24
signed_mantissa = refl

signed_exponent : exponent (codes "-0.025E+3") ≡ pos 0
signed_exponent = refl

-- `+17` is 17 * 10 ^ 0
integer_mantissa : mantissa (codes "+17") ≡ pos 17
integer_mantissa = refl

integer_exponent : exponent (codes "+17") ≡ pos 0
integer_exponent = refl

-- `-0.` is 0
zero_mantissa : mantissa (codes "-0.") ≡ pos 0
zero_mantissa = refl
