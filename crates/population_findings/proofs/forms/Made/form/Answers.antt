use Rattle.std.proofs.Common.{true, ◌&&◌, ap, sym, ◌∙◌, subst, map}
use Rattle.step_exchange.specs.Views.{record_in}
use Rattle.schema_names.specs.Schemas.{the_schema}
use Rattle.population_findings.specs.steps.Keywords.{NumberAll}
use Rattle.population_findings.proofs.Makings.{an-internal, an-external}
use Rattle.population_findings.proofs.forms.Made.form.Goals as goal

pub returns-then-is_internal : goal.returns-then-is_internal
returns-then-is_internal c =
    let named = c.in-Some.ensures in
    an-internal (the_schema c.args.known.now.names.now) c.args.parts.now c.in-Some.entity c.args.self.now
    c.internal.new.self
    c.in_ok-internal.field-0 c.in_ok-internal.ensures (sym c.is_internal.ensures ∙ c.if-is_internal.true)
    (ap (λ b. b && true) named.0) ((named.1, named.2), tt)

pub returns : goal.returns
returns c =
    let s = the_schema c.args.known.now.names.now in
    let named : NumberAll s (map record_in c.args.parts.now) c.number_all.new.entities.items true =
    subst (NumberAll s (map record_in c.args.parts.now) c.number_all.new.entities.items) c.if-not-branch.false
    c.in_ok-number_all.ensures in
    an-external s c.args.parts.now c.number_all.new.entities.items c.args.self.now c.external.new.self
    c.in_ok-external.field-0 c.in_ok-external.ensures (sym c.is_internal.ensures ∙ c.if-is_internal.false)
    named.0 named.1
