use Rattle.std.proofs.Common.{◌≡◌, ◌∙◌, ℕ, List, [], refl, sym, ap, subst, drop}
use Rattle.conformance.specs.Bases.{Domain, IsDomain}
use Rattle.step_values.specs.Values.{Values}
use Rattle.step_values.specs.steps.Targets.{LeadTo, ReferTo}
use Rattle.schema_names.specs.Schemas.{the_schema}
use Rattle.schema_underlying_types.specs.declared.lookup.Bases.{Bases}
use Rattle.population_reader.specs.declared.instance_values.Maker.{Maker}
use Rattle.step_values.specs.steps.Building.{Building}
use Rattle.population_rows.specs.Index.{found}
use Rattle.parameter_fits.specs.steps.References.{AreFound}
use Rattle.population_reader.specs.steps.Making.{IsMaker, AddsRows}
use Rattle.step_exchange.specs.Views.{rows_with}
use Rattle.population_findings.specs.steps.Rows.{rows_in}
use Rattle.step_exchange.proofs.Named.{rows-are}
use Rattle.population_reader.proofs.Turns.{maker-by, ready-by, rows-made}
use Rattle.population_reader.proofs.instance_values.values_of.Goals as goal

pub push_rows-requires-clause-maker : goal.push_rows-requires-clause-maker
push_rows-requires-clause-maker c =
    let x = c.args.exchange.now in
    let rows = c.args.rows.now in
    let ws = rows_with c.as_slice-names.result.now c.split-instances.result.1 in
    subst (λ (b : Building). IsMaker c.maker_of-maker.result b.names) (sym c.builder_of-builder.ensures)
    (maker-by c.maker_of-maker.result c.args.bases.now rows.index c.maker_of-maker.ensures.bases
    c.maker_of-maker.ensures.index rows.forms.items ws ws rows.form_of.items refl c.as_slice-names.result.now
    c.requires.bases (subst (λ ns. AreFound ns (found rows.index)) (sym c.as_slice-names.ensures) c.requires.index))

pub push_rows-requires-clause-ready : goal.push_rows-requires-clause-ready
push_rows-requires-clause-ready c =
    let x = c.args.exchange.now in
    let rows = c.args.rows.now in
    let ws = rows_with c.as_slice-names.result.now c.split-instances.result.1 in
    let same : ws ≡ rows_in x =
    ap (λ ns. rows_with ns c.split-instances.result.1) c.as_slice-names.ensures
    ∙ ap (rows_with x.names) (c.split-instances.ensures.back ∙ ap (λ l. drop x.header_len l) c.trees.ensures)
    ∙ sym (rows-are x) in
    ready-by c.maker_of-maker.result c.args.bases.now rows.index c.maker_of-maker.ensures.bases
    c.maker_of-maker.ensures.index rows.forms.items ws (rows_in x) rows.form_of.items same c.requires.ready

pub finish-requires : goal.finish-requires
finish-requires c =
    let x = c.args.exchange.now in
    let rows = c.args.rows.now in
    let ws = rows_with c.as_slice-names.result.now c.split-instances.result.1 in
    let some = c.requires.bases.1.exists in
    (rows-made c.maker_of-maker.result c.args.bases.now rows.index c.maker_of-maker.ensures.bases
    c.maker_of-maker.ensures.index rows.forms.items ws ws rows.form_of.items refl c.as_slice-names.result.now
    c.builder_of-builder.result c.push_rows.new.builder c.builder_of-builder.ensures c.in_ok-push_rows.ensures some.0 some.1).1

-- the names over which rows were made
made-names : (m : Maker) (new : Building) (rows : Domain → List Values) (names : List ℕ)
    (some : (d : Domain) × IsDomain (the_schema m.bases.names.now) d) (old : Building) → AddsRows m old new rows
    → old ≡ record { names = names; rows = []; pending = [] } → new.names ≡ names
made-names m new rows names some old adds first =
    ap (λ (b : Building). b.names) (adds some.0 some.1) ∙ ap (λ (b : Building). b.names) first

pub returns-clause-leads : goal.returns-clause-leads
returns-clause-leads c =
    let some = c.requires.bases.1.exists in
    let m = c.maker_of-maker.result in
    let is = subst (λ (b : Bases). IsDomain (the_schema b.names.now) some.0)
    (sym c.maker_of-maker.ensures.bases) some.1 in
    subst (λ ns. LeadTo ns c.finish.result.targets)
    (made-names m c.push_rows.new.builder _ c.as_slice-names.result.now (some.0, is) c.builder_of-builder.result
    c.in_ok-push_rows.ensures c.builder_of-builder.ensures ∙ c.as_slice-names.ensures) c.finish.ensures.targets

pub returns-clause-refers : goal.returns-clause-refers
returns-clause-refers c =
    let some = c.requires.bases.1.exists in
    let m = c.maker_of-maker.result in
    let is = subst (λ (b : Bases). IsDomain (the_schema b.names.now) some.0)
    (sym c.maker_of-maker.ensures.bases) some.1 in
    subst (λ ns. ReferTo ns c.finish.result.rows)
    (made-names m c.push_rows.new.builder _ c.as_slice-names.result.now (some.0, is) c.builder_of-builder.result
    c.in_ok-push_rows.ensures c.builder_of-builder.ensures ∙ c.as_slice-names.ensures) c.finish.ensures.closed

pub returns-clause-rows : goal.returns-clause-rows
returns-clause-rows c = λ d is.
    let x = c.args.exchange.now in
    let rows = c.args.rows.now in
    let ws = rows_with c.as_slice-names.result.now c.split-instances.result.1 in
    let same : ws ≡ rows_in x =
    ap (λ ns. rows_with ns c.split-instances.result.1) c.as_slice-names.ensures
    ∙ ap (rows_with x.names) (c.split-instances.ensures.back ∙ ap (λ l. drop x.header_len l) c.trees.ensures)
    ∙ sym (rows-are x) in
    c.finish.ensures.rows
    ∙ (rows-made c.maker_of-maker.result c.args.bases.now rows.index c.maker_of-maker.ensures.bases
    c.maker_of-maker.ensures.index rows.forms.items ws (rows_in x) rows.form_of.items same
    c.as_slice-names.result.now c.builder_of-builder.result c.push_rows.new.builder c.builder_of-builder.ensures
    c.in_ok-push_rows.ensures d is).0
