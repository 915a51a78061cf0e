use Rattle.std.proofs.Common.{ap, sym, ◌∙◌}
use Rattle.conformance.specs.Entities.{records}
use Rattle.schema_names.specs.Schemas.{the_schema}
use Rattle.population_findings.specs.steps.Keywords.{unknown_among}
use Rattle.population_findings.proofs.Makings.{form-internal, form-external}
use Rattle.population_findings.proofs.keywords.unknown_entities.Goals as goal

pub returns-then-not-is_internal : goal.returns-then-not-is_internal
returns-then-not-is_internal c =
    c.unknown_partials.ensures
    ∙ sym (ap (λ f. unknown_among (the_schema c.args.names.now) (records f))
    (form-external c.args.parts.now (sym c.is_internal.ensures ∙ c.if-not-is_internal.true)))

pub returns : goal.returns
returns c =
    c.unknown_entity.ensures.counted
    ∙ sym (ap (λ f. unknown_among (the_schema c.args.names.now) (records f))
    (form-internal c.args.parts.now (sym c.is_internal.ensures ∙ c.if-not-is_internal.false)))
