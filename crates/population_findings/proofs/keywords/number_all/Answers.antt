use Rattle.std.proofs.Common.{◌≡◌, ap, sym, ◌∙◌, subst, true, map, take, ◌+◌}
use Rattle.step_exchange.specs.Views.{record_of, record_in}
use Rattle.schema_semantics.specs.Names.{IsEntity}
use Rattle.schema_names.specs.Numbers.{HasNumber}
use Rattle.schema_names.specs.Schemas.{the_schema}
use Rattle.conformance.specs.ParameterFits.{is_entity}
use Rattle.conformance.specs.Entities.{named_entity}
use Rattle.population_findings.specs.steps.Keywords.{NumberAll}
use Rattle.population_findings.proofs.Records.{number-next, not-all}
use Rattle.population_findings.proofs.keywords.number_all.Goals as goal

pub returns-in_default : goal.returns-in_default
returns-in_default c =
    let s = the_schema c.args.names.now in
    not-all s c.args.partials.now c.loop-i.i c.at.result c.at.ensures
    (ap (λ l. is_entity s (named_entity (record_of l))) (sym c.parts.ensures) ∙ c.in_default.ensures)

pub loop-i-preserved : goal.loop-i-preserved
loop-i-preserved c =
    let s = the_schema c.args.names.now in
    let here = subst (λ l. (is_entity s (named_entity (record_of l)) ≡ true) × IsEntity s (named_entity (record_of l))
    × HasNumber s (named_entity (record_of l)) c.in-Some.entity) c.parts.ensures c.in-Some.ensures in
    subst (λ is. NumberAll s (map record_in (take (c.loop-i.i + 1) c.args.partials.now)) is true)
    (sym c.in_ok-push.ensures.items)
    (number-next s c.args.partials.now c.loop-i.entities.items c.loop-i.i c.at.result c.in-Some.entity c.at.ensures
    c.loop-i.invariant here)
