use Rattle.std.proofs.Common.{ap, sym, subst, ◌∙◌, map, []}
use Rattle.std.proofs.lemmas.Option.{slice_get-get_or}
use Rattle.std.specs.List.{AllZip}
use Rattle.population_rows.specs.declared.form.Form.{Form}
use Rattle.schema_names.specs.Schemas.{the_schema}
use Rattle.schema_redeclarations.proofs.Going.{zip-next, all-taken}
use Rattle.schema_attribute_sources.specs.SourceViews.{inverses_seen}
use Rattle.typed_populations.specs.PopulationTables.{AreNumbered}
use Rattle.typed_populations.proofs.Found.{every-at}
use Rattle.rule_sources.specs.Sources.{AreNamedSources}
use Rattle.rule_sources.proofs.Rows.{same-forms}
use Rattle.rule_sources.proofs.sources.FormSources.of.Goals as goal

pub loop-n-init : goal.loop-n-init
loop-n-init c =
    let s = the_schema c.args.schema.now.names in
    subst (AllZip (AreNamedSources s (inverses_seen s c.args.inverses.now)) [])
    (sym (ap (map (λ v. v.items)) c.new-rows.ensures.items)) tt

pub form_row-requires-clause-numbered : goal.form_row-requires-clause-numbered
form_row-requires-clause-numbered c =
    let s = the_schema c.args.schema.now.names in
    let xs = c.args.forms.now in
    subst (AreNumbered s) (sym c.index-forms-n.is)
    (every-at (AreNumbered s) xs c.loop-n.n _ c.requires.numbered
    (slice_get-get_or xs c.loop-n.n c.index-forms-n.result c.loop-n-test.true))

pub loop-n-preserved : goal.loop-n-preserved
loop-n-preserved c =
    let s = the_schema c.args.schema.now.names in
    zip-next (AreNamedSources s (inverses_seen s c.args.inverses.now)) (λ (x : Form). x) (λ v. v.items)
    c.args.forms.now c.loop-n.n c.index-forms-n.result c.loop-n.rows.items c.push.new.self.items c.in_ok-row.row
    c.loop-n-test.true c.index-forms-n.is c.loop-n.invariant c.in_ok-row.ensures c.in_ok-push.ensures.items

pub returns : goal.returns
returns c =
    let s = the_schema c.args.schema.now.names in
    subst (λ ts. AllZip (AreNamedSources s (inverses_seen s c.args.inverses.now)) ts (map (λ v. v.items) c.loop-n.rows.items))
    (all-taken (λ (x : Form). x) c.args.forms.now c.loop-n.n c.loop-n-test.false ∙ same-forms c.args.forms.now)
    c.loop-n.invariant
