-- The tables of a schema that populations are checked by.
use Rattle.graphs.specs.Graphs.{graph_of}
use Rattle.schema_names.specs.Schemas.{the_schema}
use Rattle.schema_types.specs.declared.types.ResolvedTypes.{ResolvedTypes}
use Rattle.schema_underlying_types.specs.Tables.{AreBaseTypes}
use Rattle.schema_redeclarations.specs.Uses.{AreUses}
use Rattle.population_forms.specs.steps.Knowing.{AreOperands}
use Rattle.population_forms.specs.declared.tables.SchemaTables.{SchemaTables}

-- The tables are those of the schema with these resolved types.
pub record AreTables (x : ResolvedTypes) (t : SchemaTables) : Type 0 where
  pub base_types : AreBaseTypes (the_schema x.names) t.base_types
  pub uses : AreUses (the_schema x.names) t.uses
  pub one_ofs : AreOperands (the_schema x.names) (graph_of t.one_ofs.items)
