use Rattle.std.proofs.Common.{◌<◌, length, drop, arith}
use Rattle.step_records.specs.Cells.{all_of}
use Rattle.population_findings.proofs.Misfitting.{tells-next, tells-short}
use Rattle.population_findings.proofs.misfits.tell_record.Goals as goal

pub returns-then-place-slots : goal.returns-then-place-slots
returns-then-place-slots c =
    tells-short c.args.judge.now c.args.instance c.args.slots.now c.args.from (all_of c.args.values.now)
    c.args.found.now.items c.loop-i.place (all_of (drop c.loop-i.i c.args.values.now)) c.loop-i.found.items
    c.if-place-slots.true c.loop-i.invariant

pub loop-i-preserved : goal.loop-i-preserved
loop-i-preserved c =
    let within : c.loop-i.place < length c.args.slots.now = omega arith in
    tells-next c.args.judge.now c.args.instance c.args.slots.now c.args.from (all_of c.args.values.now)
    c.args.found.now.items c.loop-i.place c.args.values.now c.loop-i.i c.at.result c.loop-i.found.items
    c.tell_at.new.found.items c.index-slots-place.result c.in_ok-kind.kind c.loop-i.invariant c.at.ensures within
    c.index-slots-place.is c.in_ok-kind.ensures c.in_ok-tell_at.ensures
