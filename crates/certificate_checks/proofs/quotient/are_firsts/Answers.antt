use Rattle.std.proofs.Common.{sym, ◌∙◌}
use Rattle.value_equality.proofs.Lookup.{names_stop, names_next}
use Rattle.certificate_checks.specs.steps.ComputedFirsts.{is_first}
use Rattle.certificate_checks.specs.steps.Places.{by_place}
use Rattle.certificate_checks.proofs.quotient.are_firsts.Goals as goal

pub returns-then-not-is_first : goal.returns-then-not-is_first
returns-then-not-is_first c =
    let f = c.args.firsts.now in
    sym (names_stop (is_first f.input.now (by_place f.input.now f.firsts.items)) c.args.output.now c.loop-place.place c.name.result
    c.name.ensures (sym c.is_first.ensures ∙ c.if-not-is_first.true)) ∙ c.loop-place.invariant

pub loop-place-preserved : goal.loop-place-preserved
loop-place-preserved c =
    let f = c.args.firsts.now in
    sym (names_next (is_first f.input.now (by_place f.input.now f.firsts.items)) c.args.output.now c.loop-place.place c.name.result
    c.name.ensures (sym c.is_first.ensures ∙ c.if-not-is_first.false)) ∙ c.loop-place.invariant
