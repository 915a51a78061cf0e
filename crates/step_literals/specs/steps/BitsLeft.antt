-- The bits that an iterator over a binary has yet to return.
use Rattle.std.specs.Prelude.{Bool, List, drop}
use Rattle.std.specs.List.{flat_map}
use Rattle.step_literals.specs.declared.literal.binaries.BitsLeft.{BitsLeft}
use Rattle.step_literals.specs.Bits.{digit_bits}

abbrev pub bits_left : BitsLeft → List Bool
bits_left b = drop b.passed (flat_map digit_bits b.digits.now)
