-- The results of `check` for equal texts.
use Rattle.std.specs.Prelude.{◌≡◌, ℕ, List, Some, Result, Ok, Err}
use Rattle.schema_semantics.specs.Names.{Name}
use Rattle.reports.specs.Lines.{report_text}
use Rattle.reports.specs.declared.report.Report.{Report}
use Rattle.reports.specs.SameFaults.{SameFault}
use Rattle.reports.specs.declared.fault.Fault.{Fault}
use Rattle.reports.specs.declared.fault.Fault.TheVariants as faults
use Rattle.checking.specs.Checks.{Checks}

-- Two results say the same: reports with equal lines, or equal faults.
abbrev pub ReportsSayTheSame : Result Report Fault → Result Report Fault → Type 0
ReportsSayTheSame (Ok r) (Ok q) = report_text r ≡ report_text q
ReportsSayTheSame (Err (faults.Schema f)) (Err (faults.Schema g)) = SameFault f g
ReportsSayTheSame (Err (faults.Text role kind place)) (Err (faults.Text other fault elsewhere)) =
    (role ≡ other) × (kind ≡ fault) × (place ≡ elsewhere)
ReportsSayTheSame r q = ⊥

-- The result depends on the texts: it is neither a device's fault nor out of memory.
abbrev pub IsOfTexts : {A : Type 0} → Result A Fault → Type 0
IsOfTexts (Err (faults.Device role written)) = ⊥
IsOfTexts (Err faults.Memory) = ⊥
IsOfTexts r = Unit {0}

-- All results for two texts say the same, except a device's fault and out of memory. So there aren't both a report
-- and a fault, nor two reports or two faults that say different things.
abbrev pub ChecksAreOne : Type 0
ChecksAreOne = (others : List Name) (schema file : List ℕ) (r q : Result Report Fault)
    → Checks others (Some schema) (Some file) r → Checks others (Some schema) (Some file) q → IsOfTexts r → IsOfTexts q → ReportsSayTheSame r q
