use Rattle.graphs.specs.Graphs.{graph_of}
use Rattle.schema_names.specs.Schemas.{the_schema}
use Rattle.population_forms.proofs.Existing.{entities-are}
use Rattle.population_forms.proofs.forms.entities_are_said.Goals as goal

pub returns : goal.returns
returns c =
    let k = c.args.known.now in
    entities-are (the_schema k.names.now) c.requires.known.resolved (graph_of k.above.now) c.requires.known.above
    c.requires.known.uses.exists
