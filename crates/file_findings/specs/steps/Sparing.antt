-- The findings of a file if the schema has no rules that are tested at populations.
use Rattle.std.specs.Prelude.{◌≡◌, List, []}
use Rattle.express_syntax.specs.Schemas.{Schema}
use Rattle.step_structures.specs.Trees.{File}
use Rattle.schema_semantics.specs.Names.{Name}
use Rattle.conformance.specs.declared.finding.Finding.{Finding}
use Rattle.conformance.specs.Findings.{findings}
use Rattle.conformance.specs.SchemaMeanings.{Said}
use Rattle.schema_constraints.specs.declared.tables.RuleTables.{RuleTables}
use Rattle.schema_resolution.specs.declared.findings.DomainTables.{DomainTables}

-- the findings of a file's instances one by one, under every meaning of the schema
abbrev pub AreInstanceFindings : Schema → List Name → File → List Finding → Type 0
AreInstanceFindings s others f fs = (said : Said s) → fs ≡ findings s said.domain said.entities others f

-- there are no rules
abbrev pub IsWithout : RuleTables → DomainTables → Type 0
IsWithout t domain = (t.uniques.items ≡ []) × (t.inverses.items ≡ []) × (domain.rules.items ≡ [])
