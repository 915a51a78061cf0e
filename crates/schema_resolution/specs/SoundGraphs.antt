-- The facts about a `ResolvedSchema` that `resolve` made: each of its tables is that of its schema.
-- Functions that check, merge or verify files require `IsSound`. A field of the struct could only
-- hold it truncated, and the schema's meaning (`Said` of `conformance`) is made from it.
use Rattle.schema_names.specs.Schemas.{the_schema}
use Rattle.schema_types.specs.TypeTables.{IsMade}
use Rattle.schema_types.specs.declared.types.ResolvedTypes.{ResolvedTypes}
use Rattle.schema_constraints.specs.RuleTables.{AreRuleTables}
use Rattle.schema_constraints.specs.declared.tables.RuleTables.{RuleTables}
use Rattle.schema_resolution.specs.SchemaFindings.{AreDomainTables}
use Rattle.schema_resolution.specs.declared.findings.DomainTables.{DomainTables}
use Rattle.schema_resolution.specs.declared.resolved_schema.ResolvedSchema.{ResolvedSchema}

-- The names of the schema are resolved, and the tables are those of the schema.
pub record AreSound (x : ResolvedTypes) (t : RuleTables) (c : DomainTables) : Type 0 where
  -- The names are resolved, and the tables have the schema's types and explicit attributes.
  pub made : IsMade x
  -- The table has the schema's uniqueness rules and inverse attributes.
  pub rules : AreRuleTables (the_schema x.names) t
  -- The tables have the schema's checked domain rules and the formulas of its derived attributes.
  pub domain : AreDomainTables (the_schema x.names) c

abbrev pub IsSound : ResolvedSchema → Type 0
IsSound g = AreSound g.types g.rules g.domain
