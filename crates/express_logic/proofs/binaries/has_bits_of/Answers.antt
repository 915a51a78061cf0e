use Rattle.std.proofs.Common.{◌≡◌, suc, ◌+◌, length, drop, get_or, refl, sym, ap, ◌∙◌, arith}
use Rattle.std.proofs.lemmas.Option.{slice_get-get_or}
use Rattle.step_literals.specs.Bits.{bits_of}
use Rattle.express_lexer.specs.Meanings as meanings
use Rattle.express_logic.specs.Comparison.{same_bits}
use Rattle.express_logic.proofs.Places.{Left, goes_on, differs, ends_early, ends}
use Rattle.express_logic.proofs.binaries.has_bits_of.Goals as goal

pub returns-in_default : goal.returns-in_default
returns-in_default c =
    let bs = bits_of c.args.bits.now.text.now in
    let ds = c.split_at.result.1.now in
    let i = c.loop-index.index in
    ends_early bs ds i (get_or ds i 0) (sym c.bit.ensures ∙ c.in_default.is)
    (slice_get-get_or ds i 0 c.loop-index-test.true) ∙ c.loop-index.invariant
    ∙ ap (λ l. same_bits bs (meanings.written_bits l))
    (c.split_at.ensures.back ∙ ap (drop 1) (λ j. (c.spelling.ensures j).now))

pub returns-then-bit-digits : goal.returns-then-bit-digits
returns-then-bit-digits c =
    let bs = bits_of c.args.bits.now.text.now in
    let ds = c.split_at.result.1.now in
    let i = c.loop-index.index in
    differs bs ds i (get_or ds i 0) c.in-Some.bit (sym c.bit.ensures ∙ c.in-Some.is)
    (slice_get-get_or ds i 0 c.loop-index-test.true) c.if-bit-digits.true ∙ c.loop-index.invariant
    ∙ ap (λ l. same_bits bs (meanings.written_bits l))
    (c.split_at.ensures.back ∙ ap (drop 1) (λ j. (c.spelling.ensures j).now))

pub loop-index-preserved : goal.loop-index-preserved
loop-index-preserved c =
    let bs = bits_of c.args.bits.now.text.now in
    let ds = c.split_at.result.1.now in
    let i = c.loop-index.index in
    let next : i + 1 ≡ suc i = omega arith in
    ap (Left bs ds) next
    ∙ goes_on bs ds i (get_or ds i 0) c.in-Some.bit (sym c.bit.ensures ∙ c.in-Some.is)
    (slice_get-get_or ds i 0 c.loop-index-test.true) c.if-bit-digits.false ∙ c.loop-index.invariant

pub returns : goal.returns
returns c =
    let bs = bits_of c.args.bits.now.text.now in
    let ds = c.split_at.result.1.now in
    let all : length ds ≡ c.loop-index.index = omega (
      arith,
      c.loop-index-test.false,
      c.loop-index.auto.index-end,
    ) in
    ends bs ds (length ds) c.bit-2.result c.is_none.result refl c.bit-2.ensures c.is_none.ensures
    ∙ ap (Left bs ds) all ∙ c.loop-index.invariant
    ∙ ap (λ l. same_bits bs (meanings.written_bits l))
    (c.split_at.ensures.back ∙ ap (drop 1) (λ j. (c.spelling.ensures j).now))
