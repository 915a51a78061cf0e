use Rattle.std.proofs.Common.{◌≡◌, ◌∙◌, ◌<◌, ◌^◌, ℕ, List, length, nat_eq, sym, ap, subst}
use Rattle.std.specs.List.{IsDistinct}
use Rattle.population_rows.specs.Index.{place_of}
use Rattle.step_values.specs.steps.Targets.{LeadTo, ReferTo}
use Rattle.value_equality.specs.Views.{head_names}
use Rattle.typed_populations.specs.Rows.{section_numbers}
use Rattle.typed_populations.proofs.RowsMade.{heads-names, mapped-length}
use Rattle.typed_populations.proofs.plain_rows.rows_with.Goals as goal

pub from_parts-requires-clause-each : goal.from_parts-requires-clause-each
from_parts-requires-clause-each c =
    let x = c.args.exchange.now in
    let named : head_names c.in_ok-heads.heads.items ≡ x.names =
    ap head_names c.in_ok-heads.ensures.made
    ∙ heads-names c.in_ok-formless.formless (section_numbers 0 0 x.sections.items) x.names c.args.form_of.now
    c.requires.sections c.requires.forms in
    sym (mapped-length (λ h. h.name) c.in_ok-heads.heads.items) ∙ ap length named ∙ sym c.requires.each

pub from_parts-requires-clause-leads : goal.from_parts-requires-clause-leads
from_parts-requires-clause-leads c =
    let x = c.args.exchange.now in
    let named : head_names c.in_ok-heads.heads.items ≡ x.names =
    ap head_names c.in_ok-heads.ensures.made
    ∙ heads-names c.in_ok-formless.formless (section_numbers 0 0 x.sections.items) x.names c.args.form_of.now
    c.requires.sections c.requires.forms in
    subst (λ ns. LeadTo ns c.args.values.targets) (sym named) c.requires.leads

pub from_parts-requires-clause-closed : goal.from_parts-requires-clause-closed
from_parts-requires-clause-closed c =
    let x = c.args.exchange.now in
    let named : head_names c.in_ok-heads.heads.items ≡ x.names =
    ap head_names c.in_ok-heads.ensures.made
    ∙ heads-names c.in_ok-formless.formless (section_numbers 0 0 x.sections.items) x.names c.args.form_of.now
    c.requires.sections c.requires.forms in
    subst (λ ns. ReferTo ns c.args.values.rows) (sym named) c.requires.refers

pub from_parts-requires-clause-places : goal.from_parts-requires-clause-places
from_parts-requires-clause-places c =
    let x = c.args.exchange.now in
    let named : head_names c.in_ok-heads.heads.items ≡ x.names =
    ap head_names c.in_ok-heads.ensures.made
    ∙ heads-names c.in_ok-formless.formless (section_numbers 0 0 x.sections.items) x.names c.args.form_of.now
    c.requires.sections c.requires.forms in
    λ y. c.requires.indexed y ∙ ap (λ (ns : List ℕ). place_of ns y) (sym named)

pub from_parts-requires-clause-few : goal.from_parts-requires-clause-few
from_parts-requires-clause-few c =
    let x = c.args.exchange.now in
    let named : head_names c.in_ok-heads.heads.items ≡ x.names =
    ap head_names c.in_ok-heads.ensures.made
    ∙ heads-names c.in_ok-formless.formless (section_numbers 0 0 x.sections.items) x.names c.args.form_of.now
    c.requires.sections c.requires.forms in
    subst (λ (ns : List ℕ). length ns < 2 ^ 32) (sym named) (c.exchanges_are_named.ensures x).2

pub from_parts-requires-clause-distinct : goal.from_parts-requires-clause-distinct
from_parts-requires-clause-distinct c =
    let x = c.args.exchange.now in
    let named : head_names c.in_ok-heads.heads.items ≡ x.names =
    ap head_names c.in_ok-heads.ensures.made
    ∙ heads-names c.in_ok-formless.formless (section_numbers 0 0 x.sections.items) x.names c.args.form_of.now
    c.requires.sections c.requires.forms in
    subst (IsDistinct nat_eq) (sym named) (c.exchanges_are_named.ensures x).1
