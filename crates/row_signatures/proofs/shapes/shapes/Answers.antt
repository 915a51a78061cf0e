use Rattle.std.proofs.Common.{◌≡◌, ◌+◌, ◌∙◌, ℕ, List, sym, subst, arith, length}
use Rattle.std.proofs.lemmas.Option.{get_or_from_slice_get}
use Rattle.value_equality.specs.Maps.{is_pinned}
use Rattle.value_equality.proofs.Placing.{stands_at}
use Rattle.row_signatures.specs.steps.ComputedShapes.{AreShapeNumbers, IsShapeNumber}
use Rattle.row_signatures.proofs.Shaping.{none_shaped, one_more_shape, shapes_told}
use Rattle.row_signatures.proofs.shapes.shapes.Goals as goal

pub loop-place-preserved : goal.loop-place-preserved
loop-place-preserved c =
    let pinned = is_pinned c.args.pinned.now in
    let rows = c.args.input.now in
    let place = c.loop-place.place in
    let start = c.start_of-start.result in
    let old = c.loop-place.firsts.entries in
    let next = c.number_of.new.firsts.entries in
    let (r, at) = stands_at rows place (omega (arith, c.loop-place-test.true, c.len-place-end.ensures.length)) in
    let own : c.index.result.now ≡ pinned r.name =
    c.index.ensures ∙ get_or_from_slice_get c.in_ok-marks.marks.items place (pinned r.name) c.index.result.now
    (c.in_ok-marks.ensures.told place r at) in
    subst (λ ns. AreShapeNumbers start pinned rows ns next (place + 1)) (sym {A = List ℕ} c.in_ok-push.ensures.items)
    (one_more_shape start pinned rows c.loop-place.numbers.items old next place c.in_ok-number.number r at
    c.loop-place.invariant
    (subst (λ b. IsShapeNumber start b r place c.in_ok-number.number old next) own (c.in_ok-number.ensures r at)))

pub returns : goal.returns
returns c =
    let pinned = is_pinned c.args.pinned.now in
    let rows = c.args.input.now in
    let ns = c.loop-place.numbers.items in
    let es = c.loop-place.firsts.entries in
    let start = c.start_of-start.result in
    let whole : c.loop-place.place ≡ length rows =
    omega (arith, c.loop-place-test.false, c.loop-place.auto.place-end, c.len-place-end.ensures.length) in
    shapes_told start pinned rows ns es (subst (AreShapeNumbers start pinned rows ns es) whole c.loop-place.invariant)
