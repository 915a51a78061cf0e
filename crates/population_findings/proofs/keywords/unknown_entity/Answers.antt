use Rattle.step_exchange.specs.Views.{record_of}
use Rattle.schema_names.specs.Schemas.{the_schema}
use Rattle.population_findings.proofs.Records.{known-one, unknown-one}
use Rattle.population_findings.proofs.keywords.unknown_entity.Goals as goal

pub returns-in-Some-clause-counted : goal.returns-in-Some-clause-counted
returns-in-Some-clause-counted c =
    known-one (the_schema c.args.names.now) (record_of c.args.record.now) c.in-Some.ensures.0

pub returns-in-None-clause-counted : goal.returns-in-None-clause-counted
returns-in-None-clause-counted c =
    unknown-one (the_schema c.args.names.now) (record_of c.args.record.now) c.in-None.ensures
