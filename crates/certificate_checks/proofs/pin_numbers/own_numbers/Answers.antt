use Rattle.std.proofs.Common.{◌≡◌, length, subst, arith}
use Rattle.value_equality.specs.Maps.{is_pinned}
use Rattle.certificate_checks.specs.steps.ComputedSplits.{AreOwn}
use Rattle.certificate_checks.proofs.Owning.{own_more, own_none}
use Rattle.certificate_checks.proofs.pin_numbers.own_numbers.Goals as goal

pub loop-place-init : goal.loop-place-init
loop-place-init c = own_none c.args.input.now (is_pinned c.args.pinned.now) _ c.in_ok-numbers.ensures.items

pub loop-place-preserved : goal.loop-place-preserved
loop-place-preserved c =
    own_more c.args.input.now (is_pinned c.args.pinned.now) c.loop-place.numbers.items c.push.new.self.items
    c.loop-place.place c.own_number-number.result c.loop-place.invariant c.own_number-number.ensures
    c.in_ok-push.ensures.items

pub returns : goal.returns
returns c =
    let done : c.loop-place.place ≡ length c.args.input.now =
    omega (arith, c.loop-place-test.false, c.loop-place.auto.place-end, c.len-place-end.ensures.length) in
    subst (AreOwn c.args.input.now (is_pinned c.args.pinned.now) c.loop-place.numbers.items) done
    c.loop-place.invariant
