use Rattle.std.proofs.Common.{◌≡◌}
use Rattle.step_literals.specs.Bits.{bits_of}
use Rattle.express_lexer.specs.Meanings as meanings
use Rattle.express_logic.specs.Comparison.{same_bits}
use Rattle.express_logic.proofs.Places.{Left}
use Rattle.express_logic.proofs.binaries.has_bits_of.Given as goal

-- what is left decides
abbrev pub invariant-loop-index : goal.invariant-loop-index
invariant-loop-index l =
    Left (bits_of l.bits.text.now) l.digits l.index ≡ same_bits (bits_of l.bits.text.now) (meanings.written_bits l.digits)
