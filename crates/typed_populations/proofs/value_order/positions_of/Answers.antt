use Rattle.std.proofs.Common.{◌<◌, ◌++◌, length, map, take, sym, subst, arith}
use Rattle.std.specs.Prelude.{flat_map}
use Rattle.conformance.specs.Entities.{own_places_of}
use Rattle.step_values.specs.Views.{word_of}
use Rattle.schema_names.specs.Schemas.{the_schema}
use Rattle.typed_populations.specs.ValueOrder.{position_among, StandsAt, StandAt}
use Rattle.typed_populations.proofs.Orders.{flat-next, row-stands, zip-joined}
use Rattle.typed_populations.proofs.value_order.positions_of.Goals as goal

pub loop-name-preserved : goal.loop-name-preserved
loop-name-preserved c =
    let s = the_schema c.args.names.now in
    let xs = c.args.slots.now in
    let ws = c.args.types.now in
    let i = c.loop-name.name-index in
    let w = c.name-item.result in
    let row = c.own_row.result.now in
    let lt : i < length ws = omega (arith, c.loop-name-test.true) in
    let before = flat_map (own_places_of s) (map word_of (take i ws)) in
    subst (λ ps. StandAt s xs ps c.push_positions.new.positions.items)
    (sym (flat-next (own_places_of s) word_of ws i w lt c.name-item.is))
    (subst (StandAt s xs (before ++ own_places_of s (word_of w))) (sym c.in_ok-push_positions.ensures)
    (zip-joined (StandsAt s xs) before (own_places_of s (word_of w)) c.loop-name.positions.items
    (map (position_among xs) row) c.loop-name.invariant
    (row-stands s (position_among xs) row (own_places_of s (word_of w)) c.own_row.ensures)))
