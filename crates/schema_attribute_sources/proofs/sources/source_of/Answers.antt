use Rattle.std.proofs.Common.{◌≡◌, ◌∙◌, ap, sym, None}
use Rattle.graphs.specs.Graphs.{graph_of}
use Rattle.express_syntax.specs.ExpressionViews.{capitals}
use Rattle.schema_names.specs.Schemas.{the_schema}
use Rattle.schema_underlying_types.specs.BaseViews.{name_at}
use Rattle.schema_attribute_sources.specs.SourceViews.{types_seen, inverses_seen, source_seen}
use Rattle.schema_attribute_sources.specs.steps.Deriving.{derives}
use Rattle.schema_attribute_sources.specs.steps.Lowest.{leads, lowest_from}
use Rattle.schema_attribute_sources.proofs.Deciding.{is-underived}
use Rattle.schema_attribute_sources.proofs.Keeping.{is-stored, stored-source}
use Rattle.schema_attribute_sources.proofs.sources.source_of.Goals as goal

pub derived_source-requires-clause-lowest : goal.derived_source-requires-clause-lowest
derived_source-requires-clause-lowest c =
    let s = the_schema c.args.schema.now.names in
    let a = capitals c.args.asked.name in
    let p = c.args.asked.entity in
    let above = graph_of c.args.schema.now.above.items in
    ap (λ rows. lowest_from (derives s (graph_of rows) a p) (leads above) None c.args.types.now)
    (sym c.deref.ensures.value)
    ∙ sym c.in-Some.ensures

pub stored_source-requires-clause-stored : goal.stored_source-requires-clause-stored
stored_source-requires-clause-stored c =
    let s = the_schema c.args.schema.now.names in
    let a = capitals c.args.asked.name in
    let p = c.args.asked.entity in
    let lines = graph_of c.args.sources.now.lines.items in
    let above = graph_of c.args.schema.now.above.items in
    let none : lowest_from (derives s lines a p) (leads above) None c.args.types.now ≡ None =
    ap (λ rows. lowest_from (derives s (graph_of rows) a p) (leads above) None c.args.types.now)
    (sym c.deref.ensures.value)
    ∙ sym c.in-None.ensures in
    is-stored s (name_at s p) a c.requires.declaring.1
    (is-underived s c.requires.known.made.resolved lines c.requires.known.sources.lines above
    c.requires.known.made.above a p (name_at s p) c.requires.asked c.args.types.now c.requires.types none (name_at s p)
    c.requires.declaring.0)

pub returns-in-Some-clause-source : goal.returns-in-Some-clause-source
returns-in-Some-clause-source c =
    c.derived_source.ensures.source (inverses_seen (the_schema c.args.schema.now.names) c.args.inverses.now)

pub returns-in-Some-clause-numbered : goal.returns-in-Some-clause-numbered
returns-in-Some-clause-numbered c =
    c.derived_source.ensures.numbered (inverses_seen (the_schema c.args.schema.now.names) c.args.inverses.now)

pub returns-in-None-clause-source : goal.returns-in-None-clause-source
returns-in-None-clause-source c =
    let s = the_schema c.args.schema.now.names in
    let a = capitals c.args.asked.name in
    let p = c.args.asked.entity in
    let lines = graph_of c.args.sources.now.lines.items in
    let above = graph_of c.args.schema.now.above.items in
    let none : lowest_from (derives s lines a p) (leads above) None c.args.types.now ≡ None =
    ap (λ rows. lowest_from (derives s (graph_of rows) a p) (leads above) None c.args.types.now)
    (sym c.deref.ensures.value)
    ∙ sym c.in-None.ensures in
    stored-source s (inverses_seen s c.args.inverses.now) (types_seen s c.args.types.now) (name_at s p) a
    (source_seen s (inverses_seen s c.args.inverses.now) c.stored_source.result) c.stored_source.ensures.source
    (is-underived s c.requires.known.made.resolved lines c.requires.known.sources.lines above
    c.requires.known.made.above a p (name_at s p) c.requires.asked c.args.types.now c.requires.types none)
