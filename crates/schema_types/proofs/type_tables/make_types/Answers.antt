use Rattle.std.proofs.Common.{length}
use Rattle.std.proofs.lemmas.List.{length-map}
use Rattle.graphs.specs.Graphs.{graph_of}
use Rattle.express_syntax.specs.Views.{declaration_of}
use Rattle.schema_names.specs.Schemas.{the_schema}
use Rattle.schema_types.proofs.Asked.{above-are, rows-many}
use Rattle.schema_types.proofs.type_tables.make_types.Goals as goal

pub invariant_of-result : goal.invariant_of-result
invariant_of-result c =
    let s = the_schema c.args.names in
    let graph = graph_of c.args.supertypes.now in
    let rows = graph_of c.args.above.items in
    record {
      resolved = ∣ c.requires.resolved ∣₁;
      above_are = ∣ above-are s graph rows c.requires.drawn c.requires.closed ∣₁;
      above_each = rows-many s graph c.args.above.items (length c.args.names.schema.now.declarations.items)
          c.requires.drawn c.requires.closed (length-map c.args.names.schema.now.declarations.items declaration_of);
      attributes_are = c.in_ok-places.ensures.attributes;
      places_are = ∣ c.in_ok-places.ensures.rows ∣₁;
      places_each = c.in_ok-places.ensures.each;
      own_are = ∣ c.in_ok-places.ensures.own ∣₁;
    }
