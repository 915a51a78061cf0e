use Rattle.std.proofs.Common.{sym, ◌∙◌, arith}
use Rattle.std.specs.List.{list_all}
use Rattle.std.proofs.lemmas.List.{at_drop_all}
use Rattle.value_equality.specs.Views.{row_seen}
use Rattle.value_equality.proofs.Lookup.{all_stop, all_next}
use Rattle.certificate_checks.specs.steps.ComputedFirsts.{first_lands}
use Rattle.certificate_checks.specs.steps.Places.{by_place}
use Rattle.certificate_checks.proofs.quotient.firsts_land.Goals as goal

pub returns-then-not-branch : goal.returns-then-not-branch
returns-then-not-branch c =
    let f = c.args.firsts.now in
    sym (all_stop (first_lands (by_place f.input.now f.firsts.items) c.args.output.now) f.input.now c.loop-place.place
    (row_seen c.row.result) c.row.ensures (sym c.in_ok-first_lands.ensures ∙ c.if-not-branch.true))
    ∙ c.loop-place.invariant

pub loop-place-preserved : goal.loop-place-preserved
loop-place-preserved c =
    let f = c.args.firsts.now in
    sym (all_next (first_lands (by_place f.input.now f.firsts.items) c.args.output.now) f.input.now c.loop-place.place
    (row_seen c.row.result) c.row.ensures (sym c.in_ok-first_lands.ensures ∙ c.if-not-branch.false))
    ∙ c.loop-place.invariant

pub returns : goal.returns
returns c =
    let f = c.args.firsts.now in
    sym (at_drop_all (list_all (first_lands (by_place f.input.now f.firsts.items) c.args.output.now)) f.input.now
    c.loop-place.place (omega (arith, c.len-place-end.ensures.length, c.loop-place-test.false))) ∙ c.loop-place.invariant
