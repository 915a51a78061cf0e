-- What a run comes to that merges a file.
use Rattle.std.proofs.Common.{◌≡◌, ◌∙◌, Bool, true, false, List, [], ℕ, Option, None, Some, Result, Ok, Err, IfSome, inl, inr, refl, ap, subst, sym, arith}
use Rattle.std.specs.Prelude.{◌⊎◌, ◌^◌}
use Rattle.conformance.specs.Choices.{Choice}
use Rattle.files.specs.steps.Reads.{DeviceFailsAs, IsBeyond, ReadsWhole}
use Rattle.files.specs.Stores.{Stored}
use Rattle.files.specs.declared.read.ReadFault.{ReadFault}
use Rattle.files.specs.declared.read.ReadFault.TheVariants as reads
use Rattle.files.specs.declared.fault.Role.{Role}
use Rattle.files.specs.declared.fault.Role.TheVariants as roles
use Rattle.files.specs.declared.fault.FileFault.TheVariants as file_faults
use Rattle.command_line.specs.Commands.{AsksShrink, Options, four, shrink_command}
use Rattle.command_line.specs.declared.command_words.Refusal.{Refusal}
use Rattle.command_line.specs.declared.command_words.Refusal.TheVariants as refusals
use Rattle.reports.specs.Devices.{FileFailsAs, SchemaFailsAs, is_device}
use Rattle.reports.specs.Faults.{unread}
use Rattle.reports.specs.declared.fault.Fault.{Fault}
use Rattle.reports.specs.declared.fault.Fault.TheVariants.{Memory}
use Rattle.reports.proofs.Failing.{schema_read, unread_before, unread_other, unread_schema}
use Rattle.shrinking.specs.Shrinking.{Shrinks, Written}
use Rattle.shrinking.specs.declared.summary.Summary.{Summary}
use Rattle.shrinking.proofs.Answering.{of_source, schema_not_given, unshrunk}
use Rattle.commands.specs.CommandLines.{CanFail, HasFailedWriter, IsDevices, written_at}
use Rattle.commands.specs.Endings.{EndsAs, Exit, IsUntouched, Output, OutputState, Prints}
use Rattle.files.specs.Lines.{line_of}
use Rattle.commands.specs.Faults.{fault_ending}
use Rattle.commands.specs.Merges.{MakesSmaller, RunsShrink, StandsAsWriter, Writers, asked_choice, shrink_ending, written_in}
use Rattle.commands.specs.Runs.{Refuses}
use Rattle.commands.proofs.Endings.{IsFit, SaysAs, ends_by_devices, ends_say, failed_twice, wanted_of}
use Rattle.commands.proofs.FaultEndings.{device_wanted, fault_fit, file_can, schema_can}

pub shrink_fit : (outcome : Result Summary Fault) → IsFit (shrink_ending outcome)
shrink_fit (Ok m) = inl refl
shrink_fit (Err fault) = fault_fit fault

-- an output that a run doesn't touch
abbrev pub still : OutputState → Output
still state = record { before = state; after = state }

-- ---- the schema

-- it isn't read to its end
pub unread_shrink : (T : Type 0) (schema : Stored) (e : ReadFault) (f : Fault) → f ≡ unread roles.Schema e
    → (choice : Choice) (strict : Bool) (file : Stored) (output certificate : OutputState) (exit : Exit)
    → (e ≡ reads.TooLarge → IsBeyond (2 ^ 40) schema.contents) → IfSome schema.fails (DeviceFailsAs {T = T} (Err e))
    → EndsAs (fault_ending f) exit
    → RunsShrink choice strict schema file (still output) (still certificate) exit
unread_shrink T schema e f is choice strict file output certificate exit beyond told ends = record {
  outcome = Err f;
  shrinks = schema_not_given choice strict schema.contents file.contents output.held certificate.held e f is beyond;
  schema_fails = unread_schema Summary e f is T schema.fails told;
  file_fails = unread_before Summary e f is file.fails;
  output_fails = (λ fresh. fresh ∙ sym (unread_other Summary roles.Schema e f is roles.Output refl));
  certificate_fails = (λ fresh. fresh ∙ sym (unread_other Summary roles.Schema e f is roles.Certificate refl));
  ends = ends;
}

-- it is, and this is answered to its text
pub read_shrink : (schema file : Stored) (left : Option (List ℕ)) (text : List ℕ) (choice : Choice) (strict : Bool)
    (output certificate : Output) (exit : Exit) (outcome : Result Summary Fault)
    → ReadsWhole schema.contents left text → IfSome schema.fails (λ each. false ≡ each)
    → Shrinks choice strict (Some text) file.contents (written_in output) (written_in certificate) outcome
    → is_device roles.Schema outcome ≡ false → IfSome file.fails (FileFailsAs outcome)
    → (output.before.has_failed ≡ false → output.after.has_failed ≡ is_device roles.Output outcome)
    → (certificate.before.has_failed ≡ false → certificate.after.has_failed ≡ is_device roles.Certificate outcome)
    → EndsAs (shrink_ending outcome) exit
    → RunsShrink choice strict schema file output certificate exit
read_shrink schema file left text choice strict output certificate exit outcome whole told
    shrinks fine file_told output_told certificate_told ends = record {
      outcome = outcome;
      shrinks = of_source choice strict schema.contents left text file.contents (written_in output)
          (written_in certificate) outcome whole shrinks;
      schema_fails = schema_read schema.fails outcome fine told;
      file_fails = file_told;
      output_fails = output_told;
      certificate_fails = certificate_told;
      ends = ends;
    }

-- ---- a run that is kept

-- what has failed since stands as a writer that has
writer_failed : (writers : Writers) (out : Output) → StandsAsWriter writers out
    → out.before.has_failed ≡ false → out.after.has_failed ≡ true
    → HasFailedWriter writers
writer_failed writers out (inl same) fresh fails = failed_twice out same fresh fails
writer_failed writers out (inr (writer, is)) fresh fails =
    (writer, sym (ap (λ (o : OutputState). o.has_failed) is) ∙ fails)

module _ (writers : Writers) (choice : Choice) (strict : Bool)
    (schema file : Stored) (at_output at_certificate : Written) (exit : Exit) where
  pub smaller_says : MakesSmaller writers choice strict schema file at_output at_certificate exit → SaysAs exit
  smaller_says m = ends_say (shrink_ending m.runs.outcome) exit (shrink_fit m.runs.outcome)
      m.runs.ends

  -- where the device of this role has failed, by the answer, it is one that can, or a writer that has
  pub role_can : (m : MakesSmaller writers choice strict schema file at_output at_certificate exit) → (role : Role) → is_device role m.runs.outcome ≡ true
      → CanFail schema ⊎ CanFail file ⊎ HasFailedWriter writers
  role_can m roles.Schema is = inl (schema_can Summary m.runs.outcome schema is m.runs.schema_fails)
  role_can m roles.File is = inr (inl (file_can Summary m.runs.outcome file is m.runs.file_fails))
  role_can m roles.Output is = inr (inr (writer_failed writers m.output m.output_stands
      m.output_empty.fresh (m.runs.output_fails m.output_empty.fresh ∙ is)))
  role_can m roles.Certificate is = inr (inr (writer_failed writers m.certificate m.certificate_stands
      m.certificate_empty.fresh (m.runs.certificate_fails m.certificate_empty.fresh ∙ is)))

-- the device of some role has failed, by the answer
abbrev IsOfDevice : Result Summary Fault → Type 0
IsOfDevice outcome = (role : Role) × (is_device role outcome ≡ true)

-- a device's status is wanted for such an answer alone
shrink_wanted : (outcome : Result Summary Fault)
    → IsOfDevice outcome ⊎ (wanted_of (shrink_ending outcome) ≡ 4 → ⊥)
shrink_wanted (Ok m) = inr (λ never. omega (arith, never))
shrink_wanted (Err fault) = device_wanted Summary fault

pub shrink_device : (writers : Writers) (words : List (List ℕ)) (files : List ℕ → Stored)
    (holds : List ℕ → Option (List ℕ)) (s f o c : List ℕ) (options : Options) (exit : Exit)
    → AsksShrink words s f o c options
    → MakesSmaller writers (asked_choice options) options.strict (files s) (files f) (written_at files holds o)
    (written_at files holds c) exit → exit.status ≡ 4 → IsDevices writers words files exit
shrink_device writers words files holds s f o c options exit asks makes is = λ fresh clean.
    elim (ends_by_devices (IsOfDevice makes.runs.outcome) (shrink_ending makes.runs.outcome) exit makes.runs.ends
    (shrink_wanted makes.runs.outcome) is fresh clean) [
      | inl met ↦ inr (inr (
        shrink_command,
        four s f o c options,
        asks,
        role_can writers (asked_choice options) options.strict (files s) (files f) (written_at files holds o)
            (written_at files holds c) exit makes met.0 met.1,
      ))
      | inr (inl failed) ↦ inl failed
      | inr (inr failed) ↦ inr (inl failed)
    ]

-- nothing written
abbrev nothing : Output
nothing = still (record { held = Some []; has_failed = false })

pub memory_smaller : (writers : Writers) (choice : Choice) (strict : Bool) (schema file : Stored)
    (at_output at_certificate : Written) (exit : Exit) → at_output.after ≡ at_output.before
    → at_certificate.after ≡ at_certificate.before → IsUntouched exit.out
    → Prints exit.err (line_of file_faults.Memory) 5 exit.status
    → MakesSmaller writers choice strict schema file at_output at_certificate exit
memory_smaller writers choice strict schema file at_output at_certificate exit kept_output kept_certificate same
    prints = record {
      output = nothing;
      certificate = nothing;
      output_empty = record { fresh = refl; nothing = refl; told = (λ tell. refl) };
      certificate_empty = record { fresh = refl; nothing = refl; told = (λ tell. refl) };
      output_stands = inl refl;
      certificate_stands = inl refl;
      runs = record {
        outcome = Err Memory;
        shrinks = unshrunk choice strict schema.contents file.contents (Some []) (Some []);
        schema_fails = no_schema_told schema.fails;
        file_fails = no_file_told file.fails;
        output_fails = (λ fresh. refl);
        certificate_fails = (λ fresh. refl);
        ends = (same, prints);
      };
      output_holds = kept_output;
      certificate_holds = kept_certificate;
    }
  where
    no_schema_told : (o : Option Bool) → IfSome o (SchemaFailsAs {T = Summary} (Err Memory))
    no_schema_told None = tt
    no_schema_told (Some each) = tt

    no_file_told : (o : Option Bool) → IfSome o (FileFailsAs {T = Summary} (Err Memory))
    no_file_told None = tt
    no_file_told (Some each) = tt

pub refused_smaller : (writers : Writers) (refusal : Refusal) (choice : Choice) (strict : Bool) (schema file : Stored)
    (at_output at_certificate : Written) (exit : Exit) → refusal ≡ refusals.Memory → Refuses refusal exit
    → at_output.after ≡ at_output.before → at_certificate.after ≡ at_certificate.before
    → MakesSmaller writers choice strict schema file at_output at_certificate exit
refused_smaller writers refusal choice strict schema file at_output at_certificate exit is refuses kept_output
    kept_certificate =
    let r = subst (λ m. Refuses m exit) is refuses in
    memory_smaller writers choice strict schema file at_output at_certificate exit kept_output kept_certificate r.0 r.1
