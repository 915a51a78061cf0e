-- The findings of the rules of a schema, given by its tables.
use Rattle.std.specs.Prelude.{◌≡◌, List}
use Rattle.express_syntax.specs.Schemas.{Schema}
use Rattle.schema_types.specs.declared.types.ResolvedTypes.{ResolvedTypes}
use Rattle.population_forms.specs.declared.tables.SchemaTables.{SchemaTables}
use Rattle.population_forms.specs.steps.Tables.{AreTables}
use Rattle.rule_names.specs.declared.tables.SettingTables.{SettingTables}
use Rattle.rule_names.specs.Tables.{AreSettingTables}
use Rattle.conformance.specs.Populations.{Instance}
use Rattle.conformance.specs.SchemaMeanings.{Said}
use Rattle.schema_constraints.specs.Findings.{AreFindingsOf}
use Rattle.schema_constraints.specs.declared.finding.RuleFindingKind.TheVariants.{WhereFalse}
use Rattle.schema_constraints.specs.declared.tables.RuleTables.{RuleTables}
use Rattle.schema_resolution.specs.SoundGraphs.{AreSound}
use Rattle.schema_resolution.specs.declared.findings.DomainTables.{DomainTables}
use Rattle.conformance.specs.DomainFindings.{rule_findings, unknown}
use Rattle.rule_outcomes.specs.declared.report.RuleReport.{RuleReport}
use Rattle.rule_outcomes.specs.ReportCounts.{capped}

-- The types of a schema, its rules, the parts of it that are evaluated, and its tables belong together.
pub record AreReady (x : ResolvedTypes) (t : RuleTables) (c : DomainTables) (all : SchemaTables) (asked : SettingTables)
    : Type 0 where
  pub sound : AreSound x t c
  pub tables : AreTables x all
  pub settings : AreSettingTables x asked

-- the findings of the domain rules at a population
pub record AreDomainFindings (s : Schema) (said : Said s) (is : List Instance) (r : RuleReport) : Type 0 where
  pub are_false : AreFindingsOf WhereFalse
      (rule_findings s said.domain said.entities said.attributes is said.conditions) r.findings.items
  pub are_unknown : r.unknown ≡ capped (unknown s said.domain said.entities said.attributes is said.conditions)
