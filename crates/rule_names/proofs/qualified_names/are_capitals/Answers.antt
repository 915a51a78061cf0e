use Rattle.std.proofs.Common.{◌≡◌, ◌∙◌, sym}
use Rattle.rule_names.proofs.Letters.{other_size, letter_same, letter_differs, all_same}
use Rattle.rule_names.proofs.qualified_names.are_capitals.Goals as goal

pub returns-then-bytes-letters : goal.returns-then-bytes-letters
returns-then-bytes-letters c =
    let letters = c.spelling-letters.result.now in
    let spelled : letters ≡ c.args.name.text.now = λ i. (c.spelling-letters.ensures i).now in
    other_size c.args.bytes.now letters c.args.name.text.now spelled c.if-bytes-letters.true

pub returns-then-bytes-index : goal.returns-then-bytes-index
returns-then-bytes-index c =
    let letters = c.spelling-letters.result.now in
    let spelled : letters ≡ c.args.name.text.now = λ i. (c.spelling-letters.ensures i).now in
    letter_differs c.args.bytes.now letters c.args.name.text.now spelled c.loop-index.index c.if-bytes-letters.false
    c.loop-index.invariant c.loop-index-test.true (λ e. c.if-bytes-index.true (e ∙ sym c.to_ascii_uppercase.ensures.value))

pub loop-index-preserved : goal.loop-index-preserved
loop-index-preserved c =
    let letters = c.spelling-letters.result.now in
    let spelled : letters ≡ c.args.name.text.now = λ i. (c.spelling-letters.ensures i).now in
    letter_same c.args.bytes.now letters c.args.name.text.now spelled c.loop-index.index c.if-bytes-letters.false
    c.loop-index.invariant c.loop-index-test.true (c.if-bytes-index.false ∙ c.to_ascii_uppercase.ensures.value)

pub returns : goal.returns
returns c =
    let letters = c.spelling-letters.result.now in
    let spelled : letters ≡ c.args.name.text.now = λ i. (c.spelling-letters.ensures i).now in
    all_same c.args.bytes.now letters c.args.name.text.now spelled c.loop-index.index c.if-bytes-letters.false
    c.loop-index.invariant c.loop-index-test.false
