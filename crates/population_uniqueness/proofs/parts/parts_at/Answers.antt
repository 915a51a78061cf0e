use Rattle.std.proofs.Common.{◌+◌, sym, subst, arith}
use Rattle.population_uniqueness.proofs.Collected.{Collects, collects_more, part_missing, collects_all}
use Rattle.population_uniqueness.proofs.parts.parts_at.Goals as goal

pub returns-in_default : goal.returns-in_default
returns-in_default c =
    part_missing c.args.values.now c.args.positions.now c.loop-position.position-index _ c.loop-position.parts.items
    (omega (arith, c.loop-position-test.true)) c.in_default.ensures c.loop-position.invariant

pub loop-position-preserved : goal.loop-position-preserved
loop-position-preserved c =
    subst (Collects c.args.values.now c.args.positions.now (c.loop-position.position-index + 1))
    (sym c.in_ok-push.ensures.items)
    (collects_more c.args.values.now c.args.positions.now c.loop-position.position-index _ c.loop-position.parts.items
    c.in-Some.value c.in_ok-normal_form.field-0 (omega (arith, c.loop-position-test.true)) c.in-Some.ensures
    c.in_ok-normal_form.ensures c.loop-position.invariant)

pub returns : goal.returns
returns c =
    collects_all c.args.values.now c.args.positions.now c.loop-position.position-index c.loop-position.parts.items
    (omega (arith, c.loop-position-test.false)) c.loop-position.invariant
