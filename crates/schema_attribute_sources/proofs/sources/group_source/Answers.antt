use Rattle.express_syntax.specs.ExpressionViews.{capitals}
use Rattle.schema_names.specs.Schemas.{the_schema}
use Rattle.schema_underlying_types.specs.BaseViews.{name_at}
use Rattle.conformance.specs.Attributes.{unclear}
use Rattle.schema_attribute_sources.specs.SourceViews.{types_seen, inverses_seen, source_seen}
use Rattle.schema_attribute_sources.proofs.Membership.{is-declaring, in-group, not-in-group}
use Rattle.schema_attribute_sources.proofs.Answering.{source-of-is}
use Rattle.schema_attribute_sources.proofs.sources.group_source.Goals as goal

pub source_of-requires-clause-asked : goal.source_of-requires-clause-asked
source_of-requires-clause-asked c = c.in-Some.ensures.1

pub source_of-requires-clause-declaring : goal.source_of-requires-clause-declaring
source_of-requires-clause-declaring c =
    let s = the_schema c.args.schema.now.names in
    is-declaring s (inverses_seen s c.args.inverses.now) (types_seen s c.args.types.now) (capitals c.args.entity)
    (capitals c.args.name) (name_at s c.in-Some.entity) c.in-Some.ensures.2

pub returns-in-Some-clause-group : goal.returns-in-Some-clause-group
returns-in-Some-clause-group c =
    let s = the_schema c.args.schema.now.names in
    let inverses = inverses_seen s c.args.inverses.now in
    in-group s inverses (types_seen s c.args.types.now) (capitals c.args.entity) (capitals c.args.name)
    (name_at s c.in-Some.entity) (source_seen s inverses c.source_of.result) c.in-Some.ensures.2
    c.source_of.ensures.source

pub returns-in-Some-clause-value : goal.returns-in-Some-clause-value
returns-in-Some-clause-value c attributes are =
    let s = the_schema c.args.schema.now.names in
    let inverses = inverses_seen s c.args.inverses.now in
    let types = types_seen s c.args.types.now in
    let e = capitals c.args.entity in
    let a = capitals c.args.name in
    source-of-is s c.requires.known.made.resolved inverses attributes are types e a
    (source_seen s inverses c.source_of.result)
    (in-group s inverses types e a (name_at s c.in-Some.entity) (source_seen s inverses c.source_of.result)
    c.in-Some.ensures.2 c.source_of.ensures.source)

pub returns-in-None-clause-group : goal.returns-in-None-clause-group
returns-in-None-clause-group c =
    let s = the_schema c.args.schema.now.names in
    not-in-group s (inverses_seen s c.args.inverses.now) (types_seen s c.args.types.now) (capitals c.args.entity)
    (capitals c.args.name) c.in-None.ensures

pub returns-in-None-clause-value : goal.returns-in-None-clause-value
returns-in-None-clause-value c attributes are =
    let s = the_schema c.args.schema.now.names in
    let inverses = inverses_seen s c.args.inverses.now in
    let types = types_seen s c.args.types.now in
    let e = capitals c.args.entity in
    let a = capitals c.args.name in
    source-of-is s c.requires.known.made.resolved inverses attributes are types e a unclear
    (not-in-group s inverses types e a c.in-None.ensures)
