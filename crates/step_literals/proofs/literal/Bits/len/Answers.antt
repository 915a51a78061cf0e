use Rattle.std.proofs.Common.{◌∙◌, ◌*◌, ◌-◌, length, sym}
use Rattle.step_literals.specs.Bits.{unused_bits, hex_digits}
use Rattle.step_literals.proofs.BitsLemmas.{left_len}
use Rattle.step_literals.proofs.literal.Bits.len.Goals as goal

pub returns : goal.returns
returns c =
    let t = c.args.self.now.text.now in
    let p = c.parts-unused.ensures in
    (λ i. 4 * length (p.digits i) - p.unused i) ∙ sym (left_len (unused_bits t) (hex_digits t))
