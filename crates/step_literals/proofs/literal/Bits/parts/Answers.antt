use Rattle.std.proofs.Common.{arith}
use Rattle.step_literals.proofs.BitsLemmas.{binary_hex, binary_bare}
use Rattle.step_literals.proofs.literal.Bits.parts.Goals as goal

pub returns-clause-hex : goal.returns-clause-hex
returns-clause-hex c = binary_hex c.args.self.now.text.now c.args.self.now.spelled

pub returns-clause-bare : goal.returns-clause-bare
returns-clause-bare c = λ none. omega (
  arith,
  c.from.ensures,
  binary_bare c.args.self.now.text.now
      c.args.self.now.spelled none,
)
