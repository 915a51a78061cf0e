use Rattle.std.proofs.Common.{refl, arith}
use Rattle.std.proofs.lemmas.Bool.{false≢true}
use Rattle.certificate_checks.proofs.Determining.{looked_at, more, together}
use Rattle.certificate_checks.proofs.starts.determine.Goals as goal

pub loop-place-init : goal.loop-place-init
loop-place-init c = λ i lt. absurd (omega (arith, lt))

pub loop-place-preserved : goal.loop-place-preserved
loop-place-preserved c =
    more c.args.kinds.now c.args.classes.now c.loop-place.place c.loop-place.invariant c.if-classes-first.false

pub returns-then-classes-first : goal.returns-then-classes-first
returns-then-classes-first c = (
  λ q. absurd (false≢true q),
  λ d. absurd (c.if-classes-first.true
      (looked_at c.args.kinds.now c.args.classes.now c.requires.places d c.loop-place.place c.loop-place-test.true)),
)

pub returns : goal.returns
returns c = (
  λ _. together c.args.kinds.now c.args.classes.now c.loop-place.place c.loop-place.invariant
      (let past = c.loop-place-test.false in omega (arith, past)),
  λ _. refl,
)
