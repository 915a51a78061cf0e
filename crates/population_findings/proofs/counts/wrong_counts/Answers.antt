use Rattle.std.proofs.Common.{ap, sym, ◌∙◌}
use Rattle.step_exchange.specs.Views.{record_of}
use Rattle.conformance.specs.Entities.{records}
use Rattle.population_findings.specs.steps.Counting.{miscounts}
use Rattle.population_findings.proofs.Makings.{form-internal, form-external}
use Rattle.population_findings.proofs.Miscounts.{miscounts-one}
use Rattle.population_findings.proofs.counts.wrong_counts.Goals as goal

pub returns-then-not-is_internal : goal.returns-then-not-is_internal
returns-then-not-is_internal c =
    c.wrong_partials.ensures
    ∙ sym (ap (λ f. miscounts c.args.counts.now (records f))
    (form-external c.args.parts.now (sym c.is_internal.ensures ∙ c.if-not-is_internal.true)))

pub returns : goal.returns
returns c =
    c.wrong_count.ensures.counted ∙ miscounts-one c.args.counts.now (record_of c.args.parts.now)
    ∙ sym (ap (λ f. miscounts c.args.counts.now (records f))
    (form-internal c.args.parts.now (sym c.is_internal.ensures ∙ c.if-not-is_internal.false)))
