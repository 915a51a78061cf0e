use Rattle.std.proofs.Common.{◌<◌, ◌≤◌, sym, subst, ◌∙◌, arith}
use Rattle.step_exchange.specs.Views.{form_of}
use Rattle.step_structures.specs.Trees.{ExchangeRow}
use Rattle.conformance.specs.Entities.{records, parameters}
use Rattle.population_findings.specs.steps.Judging.{TellsAll}
use Rattle.population_findings.specs.steps.Counting.{miscounts}
use Rattle.std.proofs.Common.{ap}
use Rattle.population_findings.proofs.InTurn.{on-ok, tells-types, tells-counts, tells-misfits}
use Rattle.population_findings.proofs.findings.tell_form.Goals as goal

pub returns-then-not-is_sound : goal.returns-then-not-is_sound
returns-then-not-is_sound c =
    let r : ExchangeRow = record { name = c.args.instance; form = form_of c.args.parts.now } in
    on-ok c.tell_types.result
    (tells-types c.args.judge.now c.args.form.now r c.args.found.now.items c.tell_types.new.found.items
    (sym c.is_sound.ensures ∙ c.if-not-is_sound.true)) c.tell_types.ensures

pub returns-then-wrong-gt0 : goal.returns-then-wrong-gt0
returns-then-wrong-gt0 c =
    let r : ExchangeRow = record { name = c.args.instance; form = form_of c.args.parts.now } in
    let n = c.wrong_counts-wrong.result in
    let more : 0 < n = omega arith in
    on-ok c.tell_whole.result
    (tells-counts c.args.judge.now c.args.form.now r c.args.found.now.items c.tell_whole.new.found.items n
    (sym c.is_sound.ensures ∙ c.if-not-is_sound.false)
    (c.wrong_counts-wrong.ensures ∙ ap (λ ns. miscounts ns (records (form_of c.args.parts.now))) c.deref.ensures.value)
    more) c.tell_whole.ensures

pub returns : goal.returns
returns c =
    let r : ExchangeRow = record { name = c.args.instance; form = form_of c.args.parts.now } in
    let n = c.wrong_counts-wrong.result in
    let none : n ≤ 0 = omega arith in
    on-ok c.tell_misfits.result
    (λ told. tells-misfits c.args.judge.now c.args.form.now r c.args.found.now.items c.tell_misfits.new.found.items n
    (sym c.is_sound.ensures ∙ c.if-not-is_sound.false)
    (c.wrong_counts-wrong.ensures ∙ ap (λ ns. miscounts ns (records (form_of c.args.parts.now))) c.deref.ensures.value)
    none
    (subst (λ slots. TellsAll c.args.judge.now c.args.instance slots
    (parameters (records (form_of c.args.parts.now))) c.args.found.now.items c.tell_misfits.new.found.items)
    c.deref-2.ensures.value told))
    c.tell_misfits.ensures
