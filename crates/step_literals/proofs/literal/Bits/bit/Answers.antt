use Rattle.std.proofs.Common.{drop, ap, ◌∙◌, Some, arith}
use Rattle.std.specs.List.{flat_map, slice_get}
use Rattle.step_literals.specs.Bits.{digit_bits}
use Rattle.step_literals.proofs.BitsLemmas.{bit_behind, bit_there}
use Rattle.step_literals.proofs.literal.Bits.bit.Goals as goal

pub returns-in_err-digit : goal.returns-in_err-digit
returns-in_err-digit c =
    let p = c.parts-unused.ensures in
    let h = c.in_err-digit.ensures.lookup in
    c.from_residual.ensures ∙ bit_behind c.parts-unused.result.0 c.args.index c.parts-unused.result.1.now h.3
    ∙ (λ i. slice_get (drop (p.unused i) (flat_map digit_bits (p.digits i))) c.args.index)

pub returns : goal.returns
returns c =
    let p = c.parts-unused.ensures in
    let h = c.in_ok-digit.ensures.lookup in
    ap Some c.digit_bit.ensures ∙ bit_there c.parts-unused.result.0 c.args.index c.in_ok-digit.digit.now
    c.parts-unused.result.1.now (omega (arith, h.3)) h.1
    ∙ (λ i. slice_get (drop (p.unused i) (flat_map digit_bits (p.digits i))) c.args.index)
