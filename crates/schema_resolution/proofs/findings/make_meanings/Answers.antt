use Rattle.std.proofs.Common.{sym, ◌∙◌}
use Rattle.std.proofs.lemmas.List.{length-map}
use Rattle.graphs.specs.Graphs.{graph_of}
use Rattle.express_syntax.specs.Views.{declaration_of}
use Rattle.schema_names.specs.Schemas.{the_schema}
use Rattle.schema_resolution.proofs.Above.{above-graph}
use Rattle.schema_resolution.proofs.findings.make_meanings.Goals as goal

pub reversal-requires-clause-graph : goal.reversal-requires-clause-graph
reversal-requires-clause-graph c =
    above-graph (the_schema c.args.names.now) (graph_of c.args.above.now) c.requires.above

pub returns : goal.returns
returns c = record {
  lines = c.in_ok-lines.ensures.lines;
  each = c.in_ok-lines.ensures.each ∙ sym (length-map c.args.names.now.schema.now.declarations.items declaration_of);
  below = c.in_ok-below.ensures;
  attributes = c.in_ok-attributes.ensures;
  items = c.in_ok-items.ensures;
}
