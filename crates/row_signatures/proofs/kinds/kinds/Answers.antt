use Rattle.std.proofs.Common.{◌≡◌, ◌+◌, ◌∙◌, [], rules, sym, subst, arith, length}
use Rattle.std.proofs.lemmas.Option.{get_or_from_slice_get}
use Rattle.value_equality.specs.Maps.{is_pinned}
use Rattle.value_equality.proofs.Placing.{stands_at}
use Rattle.row_signatures.specs.steps.ComputedKinds.{AreNumbers, AreRecent, first_in}
use Rattle.row_signatures.proofs.Numbering.{none_numbered, numbers_are_places, numbers_tell, one_more}
use Rattle.row_signatures.proofs.Recent.{none_recent}
use Rattle.row_signatures.proofs.kinds.kinds.Goals as goal

pub loop-place-init : goal.loop-place-init
loop-place-init c =
    let pinned = is_pinned c.args.pinned.now in
    let rows = c.args.input.now in
    let first = first_in c.with_hasher-firsts.result.entries in (
      subst (λ es. AreNumbers pinned rows c.in_ok-numbers.numbers.items (first_in es) 0) (sym c.with_hasher-firsts.ensures.empty)
          (subst (λ ns. AreNumbers pinned rows ns (first_in []) 0) (sym c.in_ok-numbers.ensures.items) (none_numbered pinned rows)),
      subst (AreRecent rows first) (sym (c.in_ok-recent.ensures.items_if_clones_equal (search rules))) (none_recent rows first 256),
    )

pub loop-place-preserved : goal.loop-place-preserved
loop-place-preserved c =
    let pinned = is_pinned c.args.pinned.now in
    let rows = c.args.input.now in
    let place = c.loop-place.place in
    let next = first_in c.number_of.new.firsts.entries in
    let (r, at) = stands_at rows place (omega (arith, c.loop-place-test.true, c.len-place-end.ensures.length)) in
    let (numbers, recent) = c.loop-place.invariant in (
      subst (λ ns. AreNumbers pinned rows ns next (place + 1)) (sym c.in_ok-push.ensures.items)
          (one_more pinned rows c.loop-place.numbers.items (first_in c.loop-place.firsts.entries) next place
          c.in_ok-number.number r at numbers (c.in_ok-number.ensures.number pinned r at (sym (get_or_from_slice_get c.in_ok-marks.marks.items place (pinned r.name) c.index.result.now (c.in_ok-marks.ensures.told place r at)) ∙ sym c.index.ensures) recent)),
      c.in_ok-number.ensures.recent recent (λ k m e. let t = numbers.told k m e in (t.0, t.1, t.3)),
    )

pub returns-clause-kinds : goal.returns-clause-kinds
returns-clause-kinds c =
    let pinned = is_pinned c.args.pinned.now in
    let rows = c.args.input.now in
    let first = first_in c.loop-place.firsts.entries in
    let ns = c.loop-place.numbers.items in
    let whole : c.loop-place.place ≡ length rows =
    omega (arith, c.loop-place-test.false, c.loop-place.auto.place-end, c.len-place-end.ensures.length) in
    numbers_tell pinned rows c.len.ensures.population.distinct ns first
    (subst (AreNumbers pinned rows ns first) whole c.loop-place.invariant.0)

pub returns-clause-places : goal.returns-clause-places
returns-clause-places c =
    let pinned = is_pinned c.args.pinned.now in
    let rows = c.args.input.now in
    let first = first_in c.loop-place.firsts.entries in
    let ns = c.loop-place.numbers.items in
    let whole : c.loop-place.place ≡ length rows =
    omega (arith, c.loop-place-test.false, c.loop-place.auto.place-end, c.len-place-end.ensures.length) in
    numbers_are_places pinned rows ns first (subst (AreNumbers pinned rows ns first) whole c.loop-place.invariant.0)
