use Rattle.std.proofs.Common.{◌≡◌, [], ◌∷◌, ◌+◌, ap, sym, ◌∙◌, arith}
use Rattle.step_exchange.specs.Views.{record_of, record_in}
use Rattle.schema_names.specs.Schemas.{the_schema}
use Rattle.population_findings.specs.steps.Keywords.{unknown_among}
use Rattle.population_findings.proofs.Records.{unknown-next}
use Rattle.population_findings.proofs.keywords.unknown_partials.Goals as goal

pub loop-i-preserved : goal.loop-i-preserved
loop-i-preserved c =
    let s = the_schema c.args.names.now in
    let x = c.at.result in
    let own : c.unknown_entity-unknown.result ≡ unknown_among s (record_in x ∷ []) =
    c.unknown_entity-unknown.ensures.counted ∙ ap (λ l. unknown_among s (record_of l ∷ [])) c.parts.ensures in
    let before = c.loop-i.invariant in
    let few = c.unknown_entity-unknown.ensures.few in (
      (λ k. before.0 k + own k) ∙ sym (unknown-next s c.args.partials.now c.loop-i.i x c.at.ensures),
      omega (arith, before.1, few),
    )
