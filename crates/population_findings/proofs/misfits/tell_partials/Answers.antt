use Rattle.std.proofs.Common.{◌≤◌, ◌∙◌, length, drop, map, ap, arith}
use Rattle.std.proofs.Math.ListN.{drop_of_length-le}
use Rattle.step_exchange.specs.Views.{record_in}
use Rattle.conformance.specs.Entities.{parameters}
use Rattle.population_findings.proofs.Misfitting.{tells-record-next, tells-all}
use Rattle.population_findings.proofs.misfits.tell_partials.Goals as goal

pub loop-i-preserved : goal.loop-i-preserved
loop-i-preserved c =
    tells-record-next c.args.judge.now c.args.instance c.args.slots.now
    (parameters (map record_in c.args.partials.now)) c.args.found.now.items c.loop-i.place c.args.partials.now
    c.loop-i.i c.at.result c.split-values.result.1 c.loop-i.found.items c.tell_record.new.found.items
    c.in_ok-place.place c.loop-i.invariant c.at.ensures
    (c.split-values.ensures.back ∙ ap (λ l. drop 1 l) c.parts.ensures) c.in_ok-place.ensures

pub returns : goal.returns
returns c =
    let le : length c.args.partials.now ≤ c.loop-i.i = omega (arith, c.loop-i-test.false, c.len-i-end.ensures) in
    let over = drop_of_length-le c.args.partials.now le in
    tells-all c.args.judge.now c.args.instance c.args.slots.now (parameters (map record_in c.args.partials.now))
    c.args.found.now.items c.loop-i.place (parameters (map record_in (drop c.loop-i.i c.args.partials.now)))
    c.loop-i.found.items (ap (λ l. parameters (map record_in l)) over) c.loop-i.invariant
