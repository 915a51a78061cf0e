use Rattle.std.proofs.Common.{sym, ap, ◌∙◌, arith}
use Rattle.step_literals.specs.Strings.{begins_with}
use Rattle.express_lexer.proofs.MarkLemmas.{longest_mark, no_mark, none_more}
use Rattle.express_lexer.proofs.marks.mark_of.Goals as goal

pub returns-then-starts_with : goal.returns-then-starts_with
returns-then-starts_with c =
    longest_mark c.args.bytes.now c.loop-mark.mark-index c.loop-mark-test.true c.loop-mark.invariant
    (ap (λ t. begins_with t c.args.bytes.now) (sym c.text.ensures) ∙ sym c.starts_with.ensures.value
    ∙ c.if-starts_with.true)

pub loop-mark-preserved : goal.loop-mark-preserved
loop-mark-preserved c =
    none_more c.args.bytes.now c.loop-mark.mark-index c.loop-mark.invariant (ap (λ t. begins_with t c.args.bytes.now)
    (sym c.text.ensures) ∙ sym c.starts_with.ensures.value ∙ c.if-starts_with.false)

pub returns : goal.returns
returns c = no_mark c.args.bytes.now (λ k lt. c.loop-mark.invariant k (omega (arith, lt, c.loop-mark-test.false)))
