-- The exit statuses.
use Rattle.std.specs.Prelude.{◌≡◌, ◌⊎◌, ℕ, List, [], ◌∷◌}
use Rattle.express_syntax.specs.declared.fault.SchemaFault.{SchemaFault}
use Rattle.express_syntax.specs.declared.fault.SchemaFault.TheVariants as schemas
use Rattle.files.specs.declared.fault.FileFault.{FileFault}
use Rattle.files.specs.declared.fault.FileFault.TheVariants.{Text, Device, Memory}
use Rattle.conformance.specs.declared.finding.Finding.{Finding}
use Rattle.schema_constraints.specs.declared.finding.RuleFinding.{RuleFinding}
use Rattle.reports.specs.declared.report.Report.{Report}

-- the status for the fault of a file
abbrev pub fault_status : FileFault → ℕ
fault_status (Text role kind place) = 2
fault_status (Device role written) = 4
fault_status Memory = 5

-- the status for the fault of a schema
abbrev pub schema_status : SchemaFault → ℕ
schema_status (schemas.Text kind place) = 2
schema_status (schemas.Name kind name) = 2
schema_status schemas.Memory = 5

-- the status for findings: 1 if the file breaks its schema, in an instance alone or in a rule of the whole
-- population
abbrev pub findings_status : List Finding → List RuleFinding → ℕ
findings_status [] [] = 0
findings_status [] (finding ∷ more) = 1
findings_status (finding ∷ more) broken = 1

abbrev pub report_status : Report → ℕ
report_status report = findings_status report.findings.items report.rule_findings.items

-- a status that the program has
abbrev pub IsStatus : ℕ → Type 0
IsStatus s = (s ≡ 0) ⊎ (s ≡ 1) ⊎ (s ≡ 2) ⊎ (s ≡ 3) ⊎ (s ≡ 4) ⊎ (s ≡ 5) ⊎ (s ≡ 6)
