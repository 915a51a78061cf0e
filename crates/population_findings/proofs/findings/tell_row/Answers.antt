use Rattle.std.proofs.Common.{◌∙◌, ap, sym, subst}
use Rattle.std.specs.Option.{option_copied}
use Rattle.step_exchange.specs.Views.{form_of, form_in}
use Rattle.step_structures.specs.Trees.{ExchangeRow}
use Rattle.conformance.specs.Entities.{records}
use Rattle.schema_names.specs.Schemas.{the_schema}
use Rattle.population_findings.specs.steps.Keywords.{unknown_among}
use Rattle.population_rows.specs.steps.Rows.{form_at}
use Rattle.population_findings.specs.steps.Judging.{TellsBehind}
use Rattle.population_findings.proofs.InTurn.{on-ok, tells-known, tells-unknown}
use Rattle.population_findings.proofs.findings.tell_row.Goals as goal

pub returns-in-Some : goal.returns-in-Some
returns-in-Some c =
    let j = c.args.judge.now in
    let r : ExchangeRow = record { name = c.args.instance; form = form_in c.args.value.now } in
    on-ok c.tell_form.result
    (λ told. tells-known j c.in-Some.form.now r c.args.found.now.items c.tell_form.new.found.items
    (form_at c.args.rows.now c.args.row) (sym (ap option_copied c.in-Some.is) ∙ c.form_at.ensures)
    (subst (λ l. TellsBehind j c.in-Some.form.now (record { name = c.args.instance; form = form_of l })
    c.args.found.now.items c.tell_form.new.found.items) c.parts-parts.ensures told))
    c.tell_form.ensures

pub returns-in-None : goal.returns-in-None
returns-in-None c =
    let j = c.args.judge.now in
    let r : ExchangeRow = record { name = c.args.instance; form = form_in c.args.value.now } in
    on-ok c.tell_whole.result
    (tells-unknown j r c.args.found.now.items c.tell_whole.new.found.items
    (form_at c.args.rows.now c.args.row) c.unknown_entities-unknown.result
    (sym (ap option_copied c.in-None.is) ∙ c.form_at.ensures)
    (c.unknown_entities-unknown.ensures
    ∙ ap (λ l. unknown_among (the_schema j.bases.names.now) (records (form_of l))) c.parts-parts.ensures))
    c.tell_whole.ensures
