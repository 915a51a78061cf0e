use Rattle.schema_names.specs.Schemas.{the_schema}
use Rattle.schema_redeclarations.proofs.Told.{are-uses}
use Rattle.schema_redeclarations.proofs.uses.attribute_uses.Goals as goal

pub returns : goal.returns
returns c =
    are-uses (the_schema c.args.sources.now.names.now)
    (record { explicit = c.in_ok-explicit.explicit; derived = c.in_ok-derived.derived })
    c.in_ok-explicit.ensures c.in_ok-derived.ensures
