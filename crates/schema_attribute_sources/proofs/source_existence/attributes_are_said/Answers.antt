use Rattle.graphs.specs.Graphs.{graph_of}
use Rattle.schema_names.specs.Schemas.{the_schema}
use Rattle.schema_attribute_sources.proofs.Saying.{attributes-are}
use Rattle.schema_attribute_sources.proofs.source_existence.attributes_are_said.Goals as goal

pub returns : goal.returns
returns c formula are =
    let t = c.args.schema.now in
    let known = c.requires.known in
    attributes-are (the_schema t.names) known.made.resolved (graph_of c.args.sources.now.lines.items)
    known.sources.lines
    (graph_of t.above.items) known.made.above (graph_of t.places.rows.items) known.made.places c.args.inverses.now
    known.inverses formula are
