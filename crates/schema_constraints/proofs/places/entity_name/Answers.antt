use Rattle.schema_names.specs.Schemas.{the_schema}
use Rattle.schema_constraints.proofs.Searched.{name-told}
use Rattle.schema_constraints.proofs.places.entity_name.Goals as goal

pub returns : goal.returns
returns c = name-told (the_schema c.args.names.now) c.args.entity c.name.result c.name.ensures
