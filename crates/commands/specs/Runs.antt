-- The outcome of a run that writes a normal text or checks a file, and of one that does nothing.
use Rattle.std.specs.Prelude.{◌≡◌, IfSome, List, false, Result, Ok, Err, string_bytes}
use Rattle.files.specs.Stores.{Stored}
use Rattle.files.specs.declared.fault.FileFault.{FileFault}
use Rattle.files.specs.declared.fault.FileFault.TheVariants as files
use Rattle.command_line.specs.declared.command_words.Refusal.{Refusal}
use Rattle.command_line.specs.declared.command_words.Refusal.TheVariants.{Shown, Usage, Memory}
use Rattle.reports.specs.Lines.{report_text}
use Rattle.reports.specs.declared.report.Report.{Report}
use Rattle.reports.specs.Devices.{FileFailsAs, SchemaFailsAs}
use Rattle.reports.specs.declared.fault.Fault.{Fault}
use Rattle.schema_semantics.specs.Names.{Name}
use Rattle.checking.specs.Checks.{Checks}
use Rattle.commands.specs.Endings.{Ending, Ends, EndsAs, Exit, IsUntouched, Prints, on_output}
use Rattle.commands.specs.Faults.{fault_ending}
use Rattle.commands.specs.Plain.{FailsAs, Plain, is_output_fault}
use Rattle.commands.specs.Statuses.{report_status}

-- What is printed for a refusal.
abbrev pub Refuses : Refusal → Exit → Type 0
Refuses (Shown text) exit = Prints exit.out (string_bytes text) 0 exit.status × IsUntouched exit.err
Refuses (Usage text) exit = IsUntouched exit.out × Prints exit.err (string_bytes text) 3 exit.status
Refuses Memory exit = IsUntouched exit.out × Ends (Err files.Memory) exit.err exit.status

-- The run did with the file what `plain` does. The output has failed exactly if that is the fault. If it is known
-- whether the reads of the file fail, the fault is the file's exactly if they do, unless memory ran out.
pub record RunsPlain (file : Stored) (exit : Exit) : Type 0 where
  pub outcome : Result Unit FileFault
  pub plain : Plain file.contents exit.out.before.held exit.out.after.held outcome
  pub file_fails : IfSome file.fails (FailsAs outcome)
  pub output_fails : exit.out.before.has_failed ≡ false → exit.out.after.has_failed ≡ is_output_fault outcome
  pub ends : Ends outcome exit.err exit.status

-- how a check ends: with the report, or with the fault
abbrev pub check_ending : Result Report Fault → Ending
check_ending (Ok report) = on_output (report_text report) (report_status report)
check_ending (Err fault) = fault_ending fault

-- The run checked a file against a schema, which the file may call by these other names. If it is known whether the
-- reads of the schema fail, the fault is that of its device exactly if they do, unless memory ran out. This also holds
-- of the file, once the schema is accepted.
pub record RunsCheck (others : List Name) (schema file : Stored) (exit : Exit) : Type 0 where
  pub outcome : Result Report Fault
  pub checks : Checks others schema.contents file.contents outcome
  pub schema_fails : IfSome schema.fails (SchemaFailsAs outcome)
  pub file_fails : IfSome file.fails (FileFailsAs outcome)
  pub ends : EndsAs (check_ending outcome) exit
