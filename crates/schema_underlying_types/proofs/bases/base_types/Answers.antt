use Rattle.std.proofs.Common.{◌∙◌, List, ap, subst, refl}
use Rattle.graphs.specs.Graphs.{graph_of}
use Rattle.schema_names.specs.Edges.{parts_in}
use Rattle.schema_names.specs.Schemas.{the_schema}
use Rattle.schema_names.proofs.Edges.{is-graph}
use Rattle.schema_data_types.specs.NumberedTypes.{all_data_types}
use Rattle.schema_data_types.proofs.Known.{no-cycle}
use Rattle.schema_underlying_types.specs.declared.base.Base.{Base}
use Rattle.schema_underlying_types.specs.BaseEntries.{bases_from, AreItems}
use Rattle.schema_underlying_types.proofs.Tables.{are-base-types}
use Rattle.schema_underlying_types.proofs.bases.base_types.Goals as goal

pub item_rows-requires-clause-graph : goal.item_rows-requires-clause-graph
item_rows-requires-clause-graph c =
    is-graph (the_schema c.args.names.now) parts_in (graph_of c.args.edges.now) c.requires.drawn

pub item_rows-requires-clause-acyclic : goal.item_rows-requires-clause-acyclic
item_rows-requires-clause-acyclic c =
    no-cycle (the_schema c.args.names.now) c.requires.resolved (graph_of c.args.edges.now) c.requires.drawn

pub returns : goal.returns
returns c =
    let s = the_schema c.args.names.now in
    let g = graph_of c.args.edges.now in
    let declared = c.in_ok-by_declaration.by_declaration.items in
    let found = graph_of c.in_ok-items.items.items in
    let (order, o) = c.in_ok-by_declaration.ensures.ordered in
    are-base-types s c.requires.resolved g c.requires.drawn order o (graph_of c.args.data_types.now.rows.items)
    c.requires.rows declared c.in_ok-by_declaration.ensures.made found
    (subst (λ (ds : List Base). AreItems ds g found) c.deref-2.ensures.value c.in_ok-items.ensures)
    (record {
      by_number = c.in_ok-by_number.by_number;
      by_declaration = c.in_ok-by_declaration.by_declaration;
      items = c.in_ok-items.items;
    }) refl c.in_ok-by_declaration.ensures.length
    (c.in_ok-by_number.ensures ∙ ap (λ (ds : List Base). bases_from s ds 0 (all_data_types s)) c.deref.ensures.value)
    refl
