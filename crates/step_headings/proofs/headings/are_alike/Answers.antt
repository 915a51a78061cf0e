use Rattle.std.proofs.Common.{◌<◌, ◌∙◌, sym, arith, length}
use Rattle.std.proofs.lemmas.Bool.{false≢true}
use Rattle.step_headings.proofs.Headed.{one_more, another, whole, as_many}
use Rattle.step_headings.proofs.headings.are_alike.Goals as goal

pub returns-then-sections-others : goal.returns-then-sections-others
returns-then-sections-others c = as_many c.args.sections.now c.args.others.now c.if-sections-others.true

pub returns-then-not-is_same : goal.returns-then-not-is_same
returns-then-not-is_same c =
    let xs = c.args.sections.now in
    let ys = c.args.others.now in
    let i = c.loop-index.index in
    let within : i < length xs = omega (arith, c.loop-index-test.true) in
    let here : i < length ys = omega (arith, c.loop-index-test.true, c.if-sections-others.false) in
    another xs ys i c.index-sections-index.result c.index-others-index.result within here c.index-sections-index.is
    c.index-others-index.is (λ e. false≢true (sym c.if-not-is_same.true ∙ c.is_same.ensures.1 e))

pub loop-index-preserved : goal.loop-index-preserved
loop-index-preserved c =
    let xs = c.args.sections.now in
    let ys = c.args.others.now in
    let i = c.loop-index.index in
    let within : i < length xs = omega (arith, c.loop-index-test.true) in
    let here : i < length ys = omega (arith, c.loop-index-test.true, c.if-sections-others.false) in
    one_more xs ys i c.index-sections-index.result c.index-others-index.result within here c.index-sections-index.is
    c.index-others-index.is (c.is_same.ensures.0 c.if-not-is_same.false) c.loop-index.invariant

pub returns : goal.returns
returns c =
    whole c.args.sections.now c.args.others.now c.loop-index.index (omega (arith, c.loop-index-test.false))
    (omega (arith, c.loop-index-test.false, c.if-sections-others.false)) c.loop-index.invariant
