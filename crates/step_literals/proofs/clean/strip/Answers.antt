use Rattle.std.proofs.Common.{◌++◌, take, arith, ap, ◌∙◌}
use Rattle.step_literals.proofs.CleanLemmas.{skips_on, skips_as, differs, begins_yes, taken_more, taken_all}
use Rattle.step_literals.specs.Strings.{clean}
use Rattle.step_literals.proofs.clean.strip.Goals as goal

pub returns-then-first-byte : goal.returns-then-first-byte
returns-then-first-byte c =
    let e = c.loop-byte.invariant.1 ∙ ap (λ l. take c.loop-byte.byte-index c.args.text.now ++ l)
    c.in_ok-first.ensures.first in
    differs c.args.text.now (clean c.args.bytes.now) c.loop-byte.byte-index c.in_ok-first.first
    (clean c.in_ok-first.after.now) e c.loop-byte-test.true c.if-first-byte.true

pub loop-byte-preserved : goal.loop-byte-preserved
loop-byte-preserved c = (
  skips_on c.loop-byte.invariant.0 c.in_ok-first.ensures.rest,
  taken_more c.args.text.now (clean c.args.bytes.now) (clean c.in_ok-first.after.now) c.loop-byte.byte-index
      c.in_ok-first.first (c.loop-byte.invariant.1 ∙ ap (λ l. take c.loop-byte.byte-index c.args.text.now ++ l)
      c.in_ok-first.ensures.first) c.loop-byte-test.true c.if-first-byte.false,
)

pub returns : goal.returns
returns c = (
  begins_yes c.args.text.now (clean c.args.bytes.now) (clean c.loop-byte.rest.now)
      (taken_all c.args.text.now (clean c.args.bytes.now) (clean c.loop-byte.rest.now) c.loop-byte.byte-index
      c.loop-byte.invariant.1 c.loop-byte-test.false),
  skips_as (omega arith) c.loop-byte.invariant.0,
)
