use Rattle.express_syntax.specs.Views.{inverse_of}
use Rattle.schema_attribute_references.specs.steps.Taking.{schema_in}
use Rattle.schema_constraints.proofs.Inverting.{is-inverse}
use Rattle.schema_constraints.proofs.inverses.inverse_attribute.Goals as goal

pub returns : goal.returns
returns c e at =
    let s = schema_in c.args.sources.now.known in
    let (p, inverts, placed) = c.inverted_place.ensures in
    is-inverse s c.requires.sources.known.resolved e (inverse_of c.args.inverse.now) _ p at c.requires.name
    c.gathering_of.ensures c.entity_number.ensures inverts placed
