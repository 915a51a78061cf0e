-- Two texts have one answer, but for a device's fault and want of memory.
use Rattle.std.specs.Prelude.{◌≡◌, ℕ, List, Some, Result, Ok, Err}
use Rattle.std.proofs.Common.{refl, sym, subst}
use Rattle.step_structures.specs.Trees.{File}
use Rattle.step_structures.specs.declared.fault.FaultKind.{FaultKind}
use Rattle.express_syntax.specs.Schemas.{Schema}
use Rattle.schema_semantics.specs.Names.{Name}
use Rattle.express_syntax.specs.declared.fault.SchemaFault.{SchemaFault}
use Rattle.files.specs.declared.fault.Role.TheVariants as roles
use Rattle.reports.specs.Lines.{report_text}
use Rattle.reports.specs.declared.report.Report.{Report}
use Rattle.reports.specs.declared.fault.Fault.{Fault}
use Rattle.reports.specs.declared.fault.Fault.TheVariants as faults
use Rattle.checking.specs.Checks.{IsResolvedSchemaText, HasSchemaFault, HasFile, HasFileFault, Checks}
use Rattle.checking.specs.Laws.{ChecksAreOne, IsOfTexts, ReportsSayTheSame}
use Rattle.checking.specs.Reporting.{IsReport, ReportsAreOne}
use Rattle.checking.proofs.Texts.{no_schema_fault, schemas_once, schema_faults_once, no_file_fault, files_once, file_faults_once}

module _ (others : List Name) (schema file : List ℕ) where
  -- reports of what the two texts read as
  reports : ReportsAreOne → (s t : Schema) (f g : File) (r q : Report) → IsResolvedSchemaText s schema → HasFile f file → IsReport s others f r
      → IsResolvedSchemaText t schema → HasFile g file → IsReport t others g q → report_text r ≡ report_text q
  reports law s t f g r q a b c d e h =
      law s others f r q c (subst (λ u. IsReport u others f q) (schemas_once schema t s d a)
      (subst (λ u. IsReport t others u q) (files_once file g f e b) h))

  -- beside a report
  by_report : ReportsAreOne → (s : Schema) (f : File) (r : Report) → IsResolvedSchemaText s schema → HasFile f file → IsReport s others f r
      → (q : Result Report Fault) → Checks others (Some schema) (Some file) q → IsOfTexts q → ReportsSayTheSame (Ok r) q
  by_report law s f r a b c (Ok q) k j = reports law s k.0 f k.1 r q a b c k.2 k.3 k.4
  by_report law s f r a b c (Err (faults.Schema fault)) k j = absurd (no_schema_fault schema s a fault k)
  by_report law s f r a b c (Err (faults.Text roles.File kind place)) k j = absurd (no_file_fault file f b kind place k.1)
  by_report law s f r a b c (Err (faults.Text roles.Schema kind place)) k j = absurd k
  by_report law s f r a b c (Err (faults.Text roles.Output kind place)) k j = absurd k
  by_report law s f r a b c (Err (faults.Text roles.Certificate kind place)) k j = absurd k
  by_report law s f r a b c (Err (faults.Unchecked us)) k j = absurd k
  by_report law s f r a b c (Err (faults.Findings q)) k j = absurd k
  by_report law s f r a b c (Err (faults.Refused role findings rules)) k j = absurd k
  by_report law s f r a b c (Err (faults.Certificate refusal)) k j = absurd k
  by_report law s f r a b c (Err (faults.Device role written)) k j = absurd j
  by_report law s f r a b c (Err faults.Memory) k j = absurd j

  -- beside a fault of the schema
  by_schema : (f : SchemaFault) → HasSchemaFault f schema → (q : Result Report Fault) → Checks others (Some schema) (Some file) q
      → IsOfTexts q → ReportsSayTheSame (Err (faults.Schema f)) q
  by_schema f h (Ok q) k j = absurd (no_schema_fault schema k.0 k.2 f h)
  by_schema f h (Err (faults.Schema g)) k j = schema_faults_once schema f g h k
  by_schema f h (Err (faults.Text roles.File kind place)) k j = absurd (no_schema_fault schema k.0.0 k.0.1 f h)
  by_schema f h (Err (faults.Text roles.Schema kind place)) k j = absurd k
  by_schema f h (Err (faults.Text roles.Output kind place)) k j = absurd k
  by_schema f h (Err (faults.Text roles.Certificate kind place)) k j = absurd k
  by_schema f h (Err (faults.Unchecked us)) k j = absurd k
  by_schema f h (Err (faults.Findings q)) k j = absurd k
  by_schema f h (Err (faults.Refused role findings rules)) k j = absurd k
  by_schema f h (Err (faults.Certificate refusal)) k j = absurd k
  by_schema f h (Err (faults.Device role written)) k j = absurd j
  by_schema f h (Err faults.Memory) k j = absurd j

  -- beside a fault of the file
  by_file : (s : Schema) → IsResolvedSchemaText s schema → (kind : FaultKind) (place : ℕ) → HasFileFault kind place file
      → (q : Result Report Fault) → Checks others (Some schema) (Some file) q → IsOfTexts q
      → ReportsSayTheSame (Err (faults.Text roles.File kind place)) q
  by_file s has kind place h (Ok q) k j = absurd (no_file_fault file k.1 k.3 kind place h)
  by_file s has kind place h (Err (faults.Schema g)) k j = absurd (no_schema_fault schema s has g k)
  by_file s has kind place h (Err (faults.Text roles.File other elsewhere)) k j =
      let one = file_faults_once file kind other place elsewhere h k.1 in (refl, one.0, one.1)
  by_file s has kind place h (Err (faults.Text roles.Schema other elsewhere)) k j = absurd k
  by_file s has kind place h (Err (faults.Text roles.Output other elsewhere)) k j = absurd k
  by_file s has kind place h (Err (faults.Text roles.Certificate other elsewhere)) k j = absurd k
  by_file s has kind place h (Err (faults.Unchecked us)) k j = absurd k
  by_file s has kind place h (Err (faults.Findings q)) k j = absurd k
  by_file s has kind place h (Err (faults.Refused role findings rules)) k j = absurd k
  by_file s has kind place h (Err (faults.Certificate refusal)) k j = absurd k
  by_file s has kind place h (Err (faults.Device role written)) k j = absurd j
  by_file s has kind place h (Err faults.Memory) k j = absurd j

pub checks_are_one : ReportsAreOne → ChecksAreOne
checks_are_one law others schema file (Ok r) q h k i j = by_report others schema file law h.0 h.1 r h.2 h.3 h.4 q k j
checks_are_one law others schema file (Err (faults.Schema f)) q h k i j = by_schema others schema file f h q k j
checks_are_one law others schema file (Err (faults.Text roles.File kind place)) q h k i j =
    by_file others schema file h.0.0 h.0.1 kind place h.1 q k j
checks_are_one law others schema file (Err (faults.Text roles.Schema kind place)) q h k i j = absurd h
checks_are_one law others schema file (Err (faults.Text roles.Output kind place)) q h k i j = absurd h
checks_are_one law others schema file (Err (faults.Text roles.Certificate kind place)) q h k i j = absurd h
checks_are_one law others schema file (Err (faults.Unchecked us)) q h k i j = absurd h
checks_are_one law others schema file (Err (faults.Findings r)) q h k i j = absurd h
checks_are_one law others schema file (Err (faults.Refused role findings rules)) q h k i j = absurd h
checks_are_one law others schema file (Err (faults.Certificate refusal)) q h k i j = absurd h
checks_are_one law others schema file (Err (faults.Device role written)) q h k i j = absurd i
checks_are_one law others schema file (Err faults.Memory) q h k i j = absurd i
