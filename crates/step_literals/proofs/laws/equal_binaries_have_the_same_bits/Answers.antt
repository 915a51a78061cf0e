use Rattle.std.specs.Cmp.{booleans_Decides}
use Rattle.std.specs.Cmp.Lexicographic.{pointwise_decides}
use Rattle.step_literals.specs.Values.{bits_value}
use Rattle.step_literals.proofs.laws.equal_binaries_have_the_same_bits.Goals as goal

pub returns : goal.returns
returns c = λ a b. pointwise_decides booleans_Decides (bits_value a) (bits_value b)
