use Rattle.std.proofs.Common.{◌<◌, ◌∙◌, Some, length, ap, arith}
use Rattle.std.proofs.lemmas.Option.{slice_get-get_or}
use Rattle.typed_populations.proofs.Moved.{rises-next, rises-all}
use Rattle.typed_populations.proofs.value_order.rise_from_0.Goals as goal

pub loop-i-preserved : goal.loop-i-preserved
loop-i-preserved c =
    let xs = c.args.numbers.now in
    let i = c.loop-i.i in
    let lt : i < length xs = omega (arith, c.loop-i-test.true) in
    rises-next xs i (slice_get-get_or xs i 0 lt ∙ ap Some c.if-numbers-i.false) c.loop-i.invariant

pub returns : goal.returns
returns c =
    let past = c.loop-i-test.false in
    rises-all c.args.numbers.now c.loop-i.i (omega (arith, past)) c.loop-i.invariant
