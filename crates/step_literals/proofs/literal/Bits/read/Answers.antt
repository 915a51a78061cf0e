use Rattle.std.proofs.Common.{◌<◌, length, refl, arith}
use Rattle.step_literals.specs.Tokens.{binary}
use Rattle.step_literals.proofs.LiteralLemmas.{not_whole, none_whole}
use Rattle.step_literals.proofs.literal.Bits.read.Goals as goal
use Rattle.step_literals.proofs.literal.Bits.read.Goals.{in_default-via-in-Some+else-len-bytes, in_default-via-in_default}

pub returns-in_default : goal.returns-in_default
returns-in_default c = (
  λ h. elim c.in_default.branch [
    | in_default-via-in-Some+else-len-bytes w ↦
        let less : w.in-Some.len < length c.args.bytes.now = omega (arith, w.in-Some.ensures.0, w.if-len-bytes.false) in
        not_whole binary c.args.bytes.now w.in-Some.len w.in-Some.ensures.1 less h
    | in_default-via-in_default w ↦ none_whole binary c.args.bytes.now w.in_default.ensures h
  ],
  refl,
)
