-- The tables from which the unchecked parts of a schema are collected.
use Rattle.std.specs.Prelude.{◌≡◌, length}
use Rattle.graphs.specs.Graphs.{graph_of}
use Rattle.schema_data_types.specs.ShapeTables.{AreShapes}
use Rattle.schema_explicit_attributes.specs.SupertypeLines.{HaveLines}
use Rattle.schema_attribute_references.specs.steps.Taking.{IsKnown, schema_in}
use Rattle.schema_data_types.specs.Items.{AreItems}
use Rattle.schema_derived_attributes.specs.AttributeRanks.{AreRanksOf}
use Rattle.schema_unchecked.specs.steps.Judging.{AreJudged}
use Rattle.schema_unchecked.specs.declared.findings.Findings.{Findings}

-- The tables are those of the schema.
pub record AreFound (f : Findings) : Type 0 where
  pub known : IsKnown f.known
  pub items : AreItems (schema_in f.known) f.items.now
  pub lines : HaveLines (schema_in f.known) (graph_of f.lines.now)
  pub each : length f.lines.now ≡ length f.known.tables.names.now.schema.now.declarations.items
  pub shapes : AreShapes (schema_in f.known) f.shapes.now
  pub judged : AreJudged (schema_in f.known) f.judged.now
  pub ranks : AreRanksOf (schema_in f.known) f.ranks.now
