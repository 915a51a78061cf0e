use Rattle.std.proofs.Common.{◌≡◌, map, length, subst, sym, arith}
use Rattle.std.proofs.lemmas.List.{length-map}
use Rattle.value_equality.specs.TableViews.{origin_of}
use Rattle.certificate_checks.specs.steps.ComputedSplits.{AreFirstBirths}
use Rattle.certificate_checks.proofs.SplitOff.{no_births, one_more, origin_read}
use Rattle.certificate_checks.proofs.births.births_of.Goals as goal

pub loop-class-init : goal.loop-class-init
loop-class-init c =
    let os = map origin_of c.args.classes.now in
    subst (λ bs. AreFirstBirths os bs 0) (sym c.new-births.ensures.items) (no_births os)

pub loop-class-preserved : goal.loop-class-preserved
loop-class-preserved c =
    let os = c.args.classes.now in
    one_more (map origin_of os) c.loop-class.class _ c.loop-class.births.items c.push_birth.new.births.items
    (origin_read os c.loop-class.class _ c.loop-class-test.true) c.loop-class.invariant c.in_ok-push_birth.ensures

pub returns : goal.returns
returns c =
    let os = c.args.classes.now in
    let same = length-map os origin_of in
    let done : c.loop-class.class ≡ length (map origin_of os) = omega (arith, same) in
    subst (AreFirstBirths (map origin_of os) c.loop-class.births.items) done c.loop-class.invariant
