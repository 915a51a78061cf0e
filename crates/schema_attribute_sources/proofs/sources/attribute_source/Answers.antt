use Rattle.std.proofs.Common.{None, Some}
use Rattle.express_syntax.specs.ExpressionViews.{capitals}
use Rattle.conformance.specs.Attributes.{unclear}
use Rattle.schema_names.specs.Schemas.{the_schema}
use Rattle.schema_attribute_sources.specs.SourceViews.{types_seen, inverses_seen, source_seen}
use Rattle.schema_attribute_sources.proofs.Naming.{number-at, declares-alone, named-none, named-one, named-two}
use Rattle.schema_attribute_sources.proofs.Answering.{source-is}
use Rattle.schema_attribute_sources.proofs.sources.attribute_source.Goals as goal

pub source_of-requires-clause-asked : goal.source_of-requires-clause-asked
source_of-requires-clause-asked c =
    number-at (the_schema c.args.schema.now.names) (capitals c.args.name) c.args.types.now c.requires.types
    c.in-One.entity c.in-One.ensures.0

pub source_of-requires-clause-declaring : goal.source_of-requires-clause-declaring
source_of-requires-clause-declaring c =
    let s = the_schema c.args.schema.now.names in
    (declares-alone s (capitals c.args.name) c.args.types.now c.requires.types (inverses_seen s c.args.inverses.now)
    c.in-One.entity c.in-One.ensures).0

pub returns-in-Nobody-clause-named : goal.returns-in-Nobody-clause-named
returns-in-Nobody-clause-named c =
    let s = the_schema c.args.schema.now.names in
    named-none s (capitals c.args.name) c.args.types.now c.requires.types (inverses_seen s c.args.inverses.now)
    c.in-Nobody.ensures

pub returns-in-Nobody-clause-value : goal.returns-in-Nobody-clause-value
returns-in-Nobody-clause-value c attributes are =
    let s = the_schema c.args.schema.now.names in
    let a = capitals c.args.name in
    let inverses = inverses_seen s c.args.inverses.now in
    source-is s c.requires.known.made.resolved inverses attributes are (types_seen s c.args.types.now) a None
    (named-none s a c.args.types.now c.requires.types inverses c.in-Nobody.ensures)

pub returns-in-One-clause-named : goal.returns-in-One-clause-named
returns-in-One-clause-named c =
    let s = the_schema c.args.schema.now.names in
    let inverses = inverses_seen s c.args.inverses.now in
    named-one s (capitals c.args.name) c.args.types.now c.requires.types inverses c.in-One.entity c.in-One.ensures
    (source_seen s inverses c.source_of.result) c.source_of.ensures.source

pub returns-in-One-clause-value : goal.returns-in-One-clause-value
returns-in-One-clause-value c attributes are =
    let s = the_schema c.args.schema.now.names in
    let a = capitals c.args.name in
    let inverses = inverses_seen s c.args.inverses.now in
    source-is s c.requires.known.made.resolved inverses attributes are (types_seen s c.args.types.now) a
    (Some (source_seen s inverses c.source_of.result))
    (named-one s a c.args.types.now c.requires.types inverses c.in-One.entity c.in-One.ensures
    (source_seen s inverses c.source_of.result) c.source_of.ensures.source)

pub returns-in-Several-clause-named : goal.returns-in-Several-clause-named
returns-in-Several-clause-named c =
    let s = the_schema c.args.schema.now.names in
    named-two s (capitals c.args.name) c.args.types.now c.requires.types (inverses_seen s c.args.inverses.now)
    c.in-Several.ensures

pub returns-in-Several-clause-value : goal.returns-in-Several-clause-value
returns-in-Several-clause-value c attributes are =
    let s = the_schema c.args.schema.now.names in
    let a = capitals c.args.name in
    let inverses = inverses_seen s c.args.inverses.now in
    source-is s c.requires.known.made.resolved inverses attributes are (types_seen s c.args.types.now) a (Some unclear)
    (named-two s a c.args.types.now c.requires.types inverses c.in-Several.ensures)
