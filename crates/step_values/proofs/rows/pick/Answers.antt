use Rattle.std.proofs.Common.{◌<◌, length, get_or, arith}
use Rattle.std.proofs.lemmas.List.{get_or_default}
use Rattle.step_values.proofs.Reordered.{picked_next}
use Rattle.step_values.proofs.rows.pick.Goals as goal

pub loop-position-preserved : goal.loop-position-preserved
loop-position-preserved c =
    let column = c.args.cells.now in
    let ks = c.args.positions.now in
    let i = c.loop-position.position-index in
    let lt : i < length ks = omega (arith, c.loop-position-test.true) in
    let p = get_or ks i 0 in
    let within : p < length column = c.requires i 0 lt in
    let cell = c.index-cells-position.result in
    picked_next column ks i p cell c.loop-position.picked.items c.push.new.self.items lt (get_or_default ks i 0 p lt) within
    c.index-cells-position.is c.loop-position.invariant c.in_ok-push.ensures.items
