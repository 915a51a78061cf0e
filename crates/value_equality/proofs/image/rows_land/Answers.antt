use Rattle.std.proofs.Common.{sym, ◌∙◌, arith}
use Rattle.std.specs.List.{list_all}
use Rattle.std.proofs.lemmas.List.{at_drop_all}
use Rattle.step_values.specs.Maps.{led_by}
use Rattle.value_equality.specs.steps.ComputedImages.{lands_by}
use Rattle.value_equality.specs.Views.{row_seen}
use Rattle.value_equality.proofs.Lookup.{all_stop, all_next}
use Rattle.value_equality.proofs.Landing.{lands_where}
use Rattle.value_equality.proofs.image.rows_land.Goals as goal

pub returns-then-not-branch : goal.returns-then-not-branch
returns-then-not-branch c =
    lands_where (led_by c.args.map.now) c.args.p.now c.args.q.now c.len-place-end.ensures.population.distinct _
    (sym (all_stop (lands_by c.args.map.now c.args.q.now) c.args.p.now c.loop-place.place (row_seen c.row.result)
    c.row.ensures (sym c.in_ok-row_lands.ensures ∙ c.if-not-branch.true)) ∙ c.loop-place.invariant)

pub loop-place-preserved : goal.loop-place-preserved
loop-place-preserved c =
    sym (all_next (lands_by c.args.map.now c.args.q.now) c.args.p.now c.loop-place.place (row_seen c.row.result)
    c.row.ensures (sym c.in_ok-row_lands.ensures ∙ c.if-not-branch.false)) ∙ c.loop-place.invariant

pub returns : goal.returns
returns c =
    lands_where (led_by c.args.map.now) c.args.p.now c.args.q.now c.len-place-end.ensures.population.distinct _
    (sym (at_drop_all (list_all (lands_by c.args.map.now c.args.q.now)) c.args.p.now c.loop-place.place
    (omega (arith, c.len-place-end.ensures.length, c.loop-place-test.false))) ∙ c.loop-place.invariant)
