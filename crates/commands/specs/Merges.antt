-- The outcome of a run that merges a file.
use Rattle.std.specs.Prelude.{◌≡◌, ◌⊎◌, ℕ, List, [], Option, None, Some, IfSome, Bool, true, false, Result, Ok, Err, is_some}
use Rattle.conformance.specs.Choices.{Choice, ChosenNames, usual, given}
use Rattle.schema_semantics.specs.Names.{Name}
use Rattle.command_line.specs.Commands.{Options, pieces}
use Rattle.files.specs.Stores.{HoldsWritten, Stored}
use Rattle.files.specs.declared.fault.Role.TheVariants as roles
use Rattle.reports.specs.MergeLines.{merge_text}
use Rattle.reports.specs.Devices.{FileFailsAs, SchemaFailsAs, is_device}
use Rattle.reports.specs.declared.fault.Fault.{Fault}
use Rattle.shrinking.specs.Shrinking.{Shrinks, Written}
use Rattle.shrinking.specs.declared.summary.Summary.{Summary}
use Rattle.commands.specs.Endings.{Ending, EndsAs, Exit, IsUntouched, Output, OutputState, on_output, state_seen}
use Rattle.commands.specs.Faults.{fault_ending}

-- the entity data types that the arguments choose: the usual ones, or those of NAMES
abbrev pub asked_names : Option (List ℕ) → ChosenNames
asked_names None = usual
asked_names (Some names) = given (pieces names)

-- the other names of the schema that the arguments give: none, or those of NAMES
abbrev pub asked_other_names : Option (List ℕ) → List Name
asked_other_names None = []
asked_other_names (Some names) = pieces names

-- what the options choose: entity data types, whether `--in-sets` is present, and other names of the schema
abbrev pub asked_choice : Options → Choice
asked_choice options = record {
  names = asked_names options.merge;
  in_sets = options.in_sets;
  other_names = asked_other_names options.schema_alias;
}

-- how a merge ends: with the report, the number of instances kept and the last round, or with the fault
abbrev pub shrink_ending : Result Summary Fault → Ending
shrink_ending (Ok m) = on_output (merge_text m.report m.kept m.rounds) 0
shrink_ending (Err fault) = fault_ending fault

-- what an output held before a run, and what it holds after it
abbrev pub written_in : Output → Written
written_in out = record { before = out.before.held; after = out.after.held }

-- The run merged a file according to a schema and a choice, and wrote the output and the certificate. Each of these
-- two has failed exactly if that is the fault. If it is known whether the reads of the schema fail, the fault is
-- that of its device exactly if they do, unless memory ran out. This also holds of the file, once schema and choice
-- are accepted.
pub record RunsShrink (choice : Choice) (strict : Bool) (schema file : Stored) (output certificate : Output)
    (exit : Exit) : Type 0 where
  pub outcome : Result Summary Fault
  pub shrinks : Shrinks choice strict schema.contents file.contents (written_in output) (written_in certificate)
      outcome
  pub schema_fails : IfSome schema.fails (SchemaFailsAs outcome)
  pub file_fails : IfSome file.fails (FileFailsAs outcome)
  pub output_fails : output.before.has_failed ≡ false → output.after.has_failed ≡ is_device roles.Output outcome
  pub certificate_fails : certificate.before.has_failed ≡ false
      → certificate.after.has_failed ≡ is_device roles.Certificate outcome
  pub ends : EndsAs (shrink_ending outcome) exit

-- The writers of a store: what each holds, if it reveals that, and whether it has failed.
pub record Writers : Type 1 where
  pub Writer : Type 0
  pub held : Writer → Option (List ℕ)
  pub has_failed : Writer → Bool

abbrev pub writers_of : {W : Type 0} → (W → Option (List ℕ)) → (W → Bool) → Writers
writers_of {W} held has_failed = record { Writer = W; held = held; has_failed = has_failed }

-- Each of these writers reveals what it holds.
abbrev pub WritersTell : Writers → Type 0
WritersTell writers = (writer : writers.Writer) → is_some (writers.held writer) ≡ true

-- Nothing was written yet, and no write has failed. What is held is known if each writer reveals it.
pub record IsEmpty (writers : Writers) (state : OutputState) : Type 0 where
  pub fresh : state.has_failed ≡ false
  pub nothing : IfSome state.held (λ bytes. bytes ≡ [])
  pub told : WritersTell writers → is_some state.held ≡ true

-- After the run the output is in the state of one of these writers, or unchanged.
abbrev pub StandsAsWriter : Writers → Output → Type 0
StandsAsWriter writers out = IsUntouched out
    ⊎ ((writer : writers.Writer) × (out.after ≡ state_seen writers.held writers.has_failed writer))

-- The run merged a file, and the store kept what was written. The paths of output and certificate are given with
-- what they held before the run and hold after it. Writers of the store show what was written, and whether writing
-- failed.
pub record MakesSmaller (writers : Writers) (choice : Choice) (strict : Bool) (schema file : Stored)
    (at_output at_certificate : Written) (exit : Exit) : Type 0 where
  pub output : Output
  pub certificate : Output
  pub output_empty : IsEmpty writers output.before
  pub certificate_empty : IsEmpty writers certificate.before
  pub output_stands : StandsAsWriter writers output
  pub certificate_stands : StandsAsWriter writers certificate
  pub runs : RunsShrink choice strict schema file output certificate exit
  pub output_holds : HoldsWritten output.after.held at_output.before at_output.after
  pub certificate_holds : HoldsWritten certificate.after.held at_certificate.before at_certificate.after
