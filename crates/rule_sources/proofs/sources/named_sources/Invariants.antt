use Rattle.schema_names.specs.Schemas.{the_schema}
use Rattle.schema_attribute_sources.specs.SourceViews.{inverses_seen}
use Rattle.rule_sources.specs.Sources.{AreNamedSources}
use Rattle.rule_sources.proofs.sources.named_sources.Given as goal

abbrev pub invariant-loop-name : goal.invariant-loop-name
invariant-loop-name l =
    AreNamedSources (the_schema l.schema.names) (inverses_seen (the_schema l.schema.names) l.tables.inverses.now) l.form
    l.row.items
