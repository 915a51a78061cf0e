use Rattle.std.proofs.Common.{rules}
use Rattle.schema_names.specs.Schemas.{the_schema}
use Rattle.population_inverses.proofs.Named.{number-within, word-is-there, word-says}
use Rattle.population_inverses.proofs.extents.Extents.holder.Goals as goal

pub name-requires : goal.name-requires
name-requires c = number-within c.args.self.now.population.now.types.now.names.schema.now _ c.args.entity c.requires

pub unwrap-requires : goal.unwrap-requires
unwrap-requires c =
    word-is-there (the_schema c.args.self.now.population.now.types.now.names) _ c.args.entity c.requires
    c.name.result c.name.ensures

pub returns : goal.returns
returns c =
    word-says (the_schema c.args.self.now.population.now.types.now.names) _ c.args.entity c.requires
    c.name.result c.name.ensures c.unwrap.result (search rules)
