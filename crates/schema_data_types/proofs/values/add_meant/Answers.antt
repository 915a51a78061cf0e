use Rattle.std.proofs.Common.{◌∙◌}
use Rattle.express_syntax.specs.Schemas.{named}
use Rattle.schema_semantics.specs.Shapes.{IsOf}
use Rattle.schema_names.specs.Schemas.{the_schema}
use Rattle.schema_data_types.proofs.Sets.{adds-nothing}
use Rattle.schema_data_types.proofs.Single.{lost-is-none}
use Rattle.schema_data_types.proofs.values.add_meant.Goals as goal

pub add_named-requires-clause-named : goal.add_named-requires-clause-named
add_named-requires-clause-named c = let (n, e) = c.requires.meant in (n, e ∙ c.in-Some.is)

pub returns-in-Some : goal.returns-in-Some
returns-in-Some c n e = c.add_named.ensures n (e ∙ c.in-Some.is)

pub returns-in-None : goal.returns-in-None
returns-in-None c n e =
    adds-nothing (the_schema c.args.tables.now.names.now) c.args.atoms.now.items
    (IsOf (the_schema c.args.tables.now.names.now) (named n))
    (lost-is-none (the_schema c.args.tables.now.names.now) n (e ∙ c.in-None.is))
