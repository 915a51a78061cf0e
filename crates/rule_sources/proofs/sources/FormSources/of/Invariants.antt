use Rattle.std.specs.List.{AllZip}
use Rattle.std.proofs.Common.{map, take}
use Rattle.population_rows.specs.declared.form.Form.{Form}
use Rattle.schema_names.specs.Schemas.{the_schema}
use Rattle.schema_attribute_sources.specs.SourceViews.{inverses_seen}
use Rattle.rule_sources.specs.Sources.{AreNamedSources}
use Rattle.rule_sources.proofs.sources.FormSources.of.Given as goal

abbrev pub invariant-loop-n : goal.invariant-loop-n
invariant-loop-n l =
    AllZip (AreNamedSources (the_schema l.schema.names) (inverses_seen (the_schema l.schema.names) l.inverses))
    (take l.n (map (λ (x : Form). x) l.forms)) (map (λ v. v.items) l.rows.items)
