-- What a run comes to that checks a file.
use Rattle.std.proofs.Common.{◌≡◌, Bool, true, false, List, [], ◌∷◌, ℕ, Option, None, Some, Result, Ok, Err, IfSome, inl, inr, refl, sym, subst, ◌∙◌, true≢false, arith}
use Rattle.std.specs.Prelude.{◌⊎◌, ◌^◌}
use Rattle.express_syntax.specs.declared.fault.SchemaFault.TheVariants as schemas
use Rattle.conformance.specs.declared.finding.Finding.{Finding}
use Rattle.schema_constraints.specs.declared.finding.RuleFinding.{RuleFinding}
use Rattle.reports.specs.Lines.{report_text}
use Rattle.reports.specs.declared.report.Report.{Report}
use Rattle.reports.specs.Devices.{FileFailsAs, SchemaFailsAs, is_device}
use Rattle.reports.specs.Faults.{unread}
use Rattle.reports.specs.declared.fault.Fault.{Fault}
use Rattle.reports.specs.declared.fault.Fault.TheVariants as faults
use Rattle.reports.proofs.Failing.{schema_read, unread_before, unread_schema}
use Rattle.schema_semantics.specs.Names.{Name}
use Rattle.checking.specs.Checks.{Checks}
use Rattle.checking.proofs.Answering.{gives, of-schema-source, unread-schema}
use Rattle.command_line.specs.Commands.{AsksCheck, Options, check_command, given_as}
use Rattle.files.specs.steps.Reads.{DeviceFailsAs, IsBeyond, ReadsWhole}
use Rattle.files.specs.Lines.{line_of}
use Rattle.files.specs.Stores.{Stored}
use Rattle.files.specs.declared.read.ReadFault.{ReadFault}
use Rattle.files.specs.declared.read.ReadFault.TheVariants as reads
use Rattle.files.specs.declared.fault.Role.TheVariants as roles
use Rattle.files.specs.declared.fault.FileFault.TheVariants as file_faults
use Rattle.command_line.specs.declared.command_words.Refusal.{Refusal}
use Rattle.command_line.specs.declared.command_words.Refusal.TheVariants.{Memory}
use Rattle.commands.specs.CommandLines.{IsDevices}
use Rattle.commands.specs.Endings.{EndsAs, Exit, IsUntouched, Prints, on_output}
use Rattle.commands.specs.Faults.{fault_ending}
use Rattle.commands.specs.Merges.{Writers}
use Rattle.commands.specs.Runs.{Refuses, RunsCheck, check_ending}
use Rattle.commands.specs.Statuses.{findings_status, report_status}
use Rattle.commands.proofs.Endings.{IsFit, OneFailed, SaysAs, ends_among, ends_by_devices, ends_say, wanted_of}
use Rattle.commands.proofs.FaultEndings.{fault_fit, file_can, schema_can}

-- the status for findings is that of a run that was done
found_fit : (found : List Finding) (broken : List RuleFinding)
    → (findings_status found broken ≡ 0) ⊎ (findings_status found broken ≡ 1)
found_fit [] [] = inl refl
found_fit [] (finding ∷ more) = inr refl
found_fit (finding ∷ more) broken = inr refl

pub check_fit : (outcome : Result Report Fault) → IsFit (check_ending outcome)
check_fit (Ok report) = found_fit report.findings.items report.rule_findings.items
check_fit (Err fault) = fault_fit fault

pub check_says : (others : List Name) (schema file : Stored) (exit : Exit)
    → RunsCheck others schema file exit → SaysAs exit
check_says others schema file exit r =
    ends_say (check_ending r.outcome) exit (check_fit r.outcome) r.ends

-- ---- the schema

-- it isn't read to its end
pub unread_check : (T : Type 0) (others : List Name) (schema file : Stored) (exit : Exit) (e : ReadFault) (f : Fault)
    → f ≡ unread roles.Schema e → (e ≡ reads.TooLarge → IsBeyond (2 ^ 40) schema.contents)
    → IfSome schema.fails (DeviceFailsAs {T = T} (Err e)) → EndsAs (fault_ending f) exit
    → RunsCheck others schema file exit
unread_check T others schema file exit e f is beyond told ends = record {
  outcome = Err f;
  checks = unread-schema others schema.contents file.contents e f is beyond;
  schema_fails = unread_schema Report e f is T schema.fails told;
  file_fails = unread_before Report e f is file.fails;
  ends = ends;
}

-- it is, and this is answered to its text
pub read_check : (others : List Name) (schema file : Stored) (left : Option (List ℕ)) (text : List ℕ) (exit : Exit)
    (outcome : Result Report Fault) → ReadsWhole schema.contents left text
    → IfSome schema.fails (λ each. false ≡ each) → Checks others (Some text) file.contents outcome
    → is_device roles.Schema outcome ≡ false → IfSome file.fails (FileFailsAs outcome)
    → EndsAs (check_ending outcome) exit → RunsCheck others schema file exit
read_check others schema file left text exit outcome whole told checks fine file_told ends = record {
  outcome = outcome;
  checks = of-schema-source others schema.contents file.contents text (gives schema.contents left text whole) outcome checks;
  schema_fails = schema_read schema.fails outcome fine told;
  file_fails = file_told;
  ends = ends;
}

-- ---- devices

found_no_device : (found : List Finding) (broken : List RuleFinding) → findings_status found broken ≡ 4 → ⊥
found_no_device found broken is = elim (found_fit found broken) [
  | inl e ↦ omega (arith, e, is)
  | inr e ↦ omega (arith, e, is)
]

-- a report is printed, with its status
pub report_ends : (report : Report) (wanted : ℕ) (exit : Exit) → wanted ≡ report_status report
    → EndsAs (on_output (report_text report) wanted) exit
    → EndsAs (check_ending (Ok report)) exit
report_ends report wanted exit is ends =
    subst (λ n. EndsAs (on_output (report_text report) n) exit) is ends

-- a source has failed, by the answer
abbrev pub IsOfSource : Result Report Fault → Type 0
IsOfSource outcome = (is_device roles.Schema outcome ≡ true) ⊎ (is_device roles.File outcome ≡ true)

-- a device's status is wanted for such an answer alone
check_wanted : (others : List Name) (schema file : Option (List ℕ)) (outcome : Result Report Fault) → Checks others schema file outcome
    → IsOfSource outcome ⊎ (wanted_of (check_ending outcome) ≡ 4 → ⊥)
check_wanted others schema file (Ok report) h = inr (found_no_device report.findings.items report.rule_findings.items)
check_wanted others schema file (Err (faults.Schema (schemas.Text kind place))) h = inr (λ no. omega (arith, no))
check_wanted others schema file (Err (faults.Schema (schemas.Name kind name))) h = inr (λ no. omega (arith, no))
check_wanted others schema file (Err (faults.Schema schemas.Memory)) h = inr (λ no. omega (arith, no))
check_wanted others schema file (Err (faults.Text role kind place)) h = inr (λ no. omega (arith, no))
check_wanted others schema file (Err (faults.Unchecked parts)) h = absurd h
check_wanted others schema file (Err (faults.Findings report)) h = absurd h
check_wanted others schema file (Err (faults.Refused role findings rules)) h = absurd h
check_wanted others schema file (Err (faults.Certificate refusal)) h = absurd h
check_wanted others schema file (Err (faults.Device roles.Schema written)) h = inl (inl refl)
check_wanted others schema file (Err (faults.Device roles.File written)) h = inl (inr refl)
check_wanted others schema file (Err (faults.Device roles.Output written)) h = absurd h
check_wanted others schema file (Err (faults.Device roles.Certificate written)) h = absurd h
check_wanted others schema file (Err faults.Memory) h = inr (λ no. omega (arith, no))

pub check_devices : (others : List Name) (schema file : Stored) (exit : Exit)
    → (r : RunsCheck others schema file exit) → exit.status ≡ 4 → exit.out.before.has_failed ≡ false
    → exit.err.before.has_failed ≡ false → IsOfSource r.outcome ⊎ OneFailed exit
check_devices others schema file exit r is fresh clean =
    ends_by_devices (IsOfSource r.outcome) (check_ending r.outcome)
    exit r.ends (check_wanted others schema.contents file.contents r.outcome r.checks) is fresh clean

-- where the status is a device's, a source has failed, by the answer, or an output
pub one_failed : (others : List Name) (schema file : Option (List ℕ)) (outcome : Result Report Fault) (exit : Exit)
    (s f : Bool) → Checks others schema file outcome → s ≡ is_device roles.Schema outcome → f ≡ is_device roles.File outcome
    → EndsAs (check_ending outcome) exit → exit.status ≡ 4 → exit.out.before.has_failed ≡ false
    → exit.err.before.has_failed ≡ false → (s ≡ true) ⊎ (f ≡ true) ⊎ OneFailed exit
one_failed others schema file outcome exit s f checks es ef ends is fresh clean =
    elim (ends_by_devices (IsOfSource outcome) (check_ending outcome) exit ends
    (check_wanted others schema file outcome checks) is fresh clean) [
      | inl (inl e) ↦ inl (es ∙ e)
      | inl (inr e) ↦ inr (inl (ef ∙ e))
      | inr failed ↦ inr (inr failed)
    ]

pub check_device : (writers : Writers) (words : List (List ℕ)) (files : List ℕ → Stored) (others : List Name)
    (schema file : List ℕ) (options : Options)
    (exit : Exit) → AsksCheck words schema file options
    → RunsCheck others (files schema) (files file) exit → exit.status ≡ 4
    → IsDevices writers words files exit
check_device writers words files others schema file options exit asks r is = λ fresh clean.
    elim (check_devices others (files schema) (files file) exit r is fresh clean) [
      | inl (inl met) ↦ inr (inr (
        check_command,
        given_as (schema ∷ file ∷ []) options,
        asks,
        inl (schema_can Report r.outcome (files schema) met r.schema_fails),
      ))
      | inl (inr met) ↦ inr (inr (
        check_command,
        given_as (schema ∷ file ∷ []) options,
        asks,
        inr (file_can Report r.outcome (files file) met r.file_fails),
      ))
      | inr (inl failed) ↦ inl failed
      | inr (inr failed) ↦ inr (inl failed)
    ]

-- ---- a source each read of which fails

abbrev DeviceOrMemory : ℕ → Type 0
DeviceOrMemory status = (status ≡ 4) ⊎ (status ≡ 5)

schema_wanted : (outcome : Result Report Fault) → SchemaFailsAs outcome true
    → DeviceOrMemory (wanted_of (check_ending outcome))
schema_wanted (Ok report) is = absurd (true≢false (sym is))
schema_wanted (Err (faults.Schema fault)) is = absurd (true≢false (sym is))
schema_wanted (Err (faults.Text role kind place)) is = absurd (true≢false (sym is))
schema_wanted (Err (faults.Unchecked parts)) is = absurd (true≢false (sym is))
schema_wanted (Err (faults.Findings report)) is = absurd (true≢false (sym is))
schema_wanted (Err (faults.Refused role findings rules)) is = absurd (true≢false (sym is))
schema_wanted (Err (faults.Certificate refusal)) is = absurd (true≢false (sym is))
schema_wanted (Err (faults.Device role written)) is = inl refl
schema_wanted (Err faults.Memory) is = inr refl

pub schema_failed : (others : List Name) (schema file : Stored) (exit : Exit)
    → RunsCheck others schema file exit → schema.fails ≡ Some true → (exit.status ≡ 4) ⊎ (exit.status ≡ 5)
schema_failed others schema file exit r is =
    ends_among DeviceOrMemory (check_ending r.outcome) exit r.ends
    (schema_wanted r.outcome (subst (λ o. IfSome o (SchemaFailsAs r.outcome)) is r.schema_fails)) (inl refl)

-- the schema's fault comes first
abbrev TextOrDevice : ℕ → Type 0
TextOrDevice status = (status ≡ 2) ⊎ (status ≡ 4) ⊎ (status ≡ 5)

file_wanted : (others : List Name) (schema file : Option (List ℕ)) (outcome : Result Report Fault) → Checks others schema file outcome
    → FileFailsAs outcome true → TextOrDevice (wanted_of (check_ending outcome))
file_wanted others schema file (Ok report) h is = absurd (true≢false (sym is))
file_wanted others schema file (Err (faults.Schema (schemas.Text kind place))) h is = inl refl
file_wanted others schema file (Err (faults.Schema (schemas.Name kind name))) h is = inl refl
file_wanted others schema file (Err (faults.Schema schemas.Memory)) h is = inr (inr refl)
file_wanted others schema file (Err (faults.Text role kind place)) h is = absurd (true≢false (sym is))
file_wanted others schema file (Err (faults.Unchecked parts)) h is = absurd h
file_wanted others schema file (Err (faults.Findings report)) h is = absurd h
file_wanted others schema file (Err (faults.Refused role findings rules)) h is = absurd h
file_wanted others schema file (Err (faults.Certificate refusal)) h is = absurd h
file_wanted others schema file (Err (faults.Device role written)) h is = inr (inl refl)
file_wanted others schema file (Err faults.Memory) h is = inr (inr refl)

pub checked_failed : (others : List Name) (schema file : Stored) (exit : Exit)
    → RunsCheck others schema file exit → file.fails ≡ Some true
    → (exit.status ≡ 2) ⊎ (exit.status ≡ 4) ⊎ (exit.status ≡ 5)
checked_failed others schema file exit r is =
    ends_among TextOrDevice (check_ending r.outcome) exit r.ends
    (file_wanted others schema.contents file.contents r.outcome r.checks (subst (λ o. IfSome o (FileFailsAs r.outcome)) is r.file_fails)) (inr (inl refl))

-- ---- what was refused

pub memory_checks : (others : List Name) (schema file : Stored) (exit : Exit) → IsUntouched exit.out
    → Prints exit.err (line_of file_faults.Memory) 5 exit.status → RunsCheck others schema file exit
memory_checks others schema file exit same prints = record {
  outcome = Err faults.Memory;
  checks = tt;
  schema_fails = no_schema_told schema.fails;
  file_fails = no_file_told file.fails;
  ends = (same, prints);
}
  where
    no_schema_told : (o : Option Bool) → IfSome o (SchemaFailsAs {T = Report} (Err faults.Memory))
    no_schema_told None = tt
    no_schema_told (Some each) = tt

    no_file_told : (o : Option Bool) → IfSome o (FileFailsAs {T = Report} (Err faults.Memory))
    no_file_told None = tt
    no_file_told (Some each) = tt

pub refused_checks : (refusal : Refusal) (others : List Name) (schema file : Stored) (exit : Exit)
    → refusal ≡ Memory → Refuses refusal exit → RunsCheck others schema file exit
refused_checks refusal others schema file exit is refuses =
    let r = subst (λ m. Refuses m exit) is refuses in
    memory_checks others schema file exit r.0 r.1
