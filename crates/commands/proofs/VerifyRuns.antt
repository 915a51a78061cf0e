-- What a run comes to that verifies an output.
use Rattle.std.proofs.Common.{◌≡◌, Bool, true, false, List, ℕ, Option, Result, Ok, Err, IfSome, inl, inr, refl, sym, ap, ◌∙◌, subst, true≢false, arith}
use Rattle.std.specs.Prelude.{◌⊎◌}
use Rattle.conformance.specs.Choices.{Choice}
use Rattle.command_line.specs.Commands.{AsksVerify, Options, four, verify_command}
use Rattle.command_line.specs.declared.command_words.Refusal.{Refusal}
use Rattle.command_line.specs.declared.command_words.Refusal.TheVariants as refusals
use Rattle.files.specs.Lines.{line_of}
use Rattle.files.specs.Stores.{Stored}
use Rattle.files.specs.declared.fault.Role.{Role}
use Rattle.files.specs.declared.fault.Role.TheVariants as roles
use Rattle.files.specs.declared.fault.FileFault.TheVariants as file_faults
use Rattle.reports.specs.Devices.{is_device}
use Rattle.reports.specs.Faults.{too_large}
use Rattle.reports.specs.declared.fault.Fault.{Fault}
use Rattle.reports.specs.declared.fault.Fault.TheVariants as faults
use Rattle.verifying.specs.Sources.{FirstUnread, IsWholeText, IsUnread, VerifiesAll, given, no_certificate, no_file, no_output, no_schema}
use Rattle.verifying.specs.Verifying.{Verifies}
use Rattle.verifying.specs.declared.proof.Proof.{Proof}
use Rattle.verifying.proofs.Reading.{no_device}
use Rattle.commands.specs.CommandLines.{CanFail, IsDevices}
use Rattle.commands.specs.Endings.{Exit, IsUntouched, Prints}
use Rattle.commands.specs.Merges.{Writers}
use Rattle.commands.specs.Runs.{Refuses}
use Rattle.commands.specs.Faults.{fault_ending}
use Rattle.commands.specs.Verifies.{RunsVerify, verify_ending}
use Rattle.commands.proofs.Endings.{IsFit, SaysAs, ends_by_devices, ends_say, wanted_of}
use Rattle.commands.proofs.FaultEndings.{device_wanted, fault_fit, wants_device}

pub verify_fit : (outcome : Result Proof Fault) → IsFit (verify_ending outcome)
verify_fit (Ok proof) = inl refl
verify_fit (Err fault) = fault_fit fault

pub verify_says : (choice : Choice) (schema file output certificate : Stored) (exit : Exit)
    → RunsVerify choice schema file output certificate exit → SaysAs exit
verify_says choice schema file output certificate exit r =
    ends_say (verify_ending r.outcome) exit (verify_fit r.outcome) r.ends

-- ---- the schema

-- A schema that was read to its end is answered to as its text is.
module _ (schema file output certificate : Stored) (text : List ℕ) (read : IsWholeText schema text) where
  same_text : (other : List ℕ) → IsWholeText (given text) other → IsWholeText schema other
  same_text other given = subst (IsWholeText schema) given.text_is read

  unread : (fault : Fault) → IsUnread roles.Schema (given text) fault → fault ≡ faults.Memory
  unread fault (inl (is, fails)) = absurd (true≢false (sym fails))
  unread fault (inr (inl (is, beyond, fails))) =
      let within = read.within in absurd (omega (arith, within, beyond))
  unread fault (inr (inr is)) = is

  first_unread : (fault : Fault) → FirstUnread (given text) file output certificate fault
      → FirstUnread schema file output certificate fault
  first_unread fault (no_schema u) = no_schema (inr (inr (unread fault u)))
  first_unread fault (no_file t r u) = no_file t (same_text t r) u
  first_unread fault (no_output t b r f u) = no_output t b (same_text t r) f u
  first_unread fault (no_certificate t b s r f o u) = no_certificate t b s (same_text t r) f o u

  pub read_verifies : (choice : Choice) (outcome : Result Proof Fault)
      → VerifiesAll choice (given text) file output certificate outcome
      → VerifiesAll choice schema file output certificate outcome
  read_verifies choice outcome (inl (fault, is, first)) = inl (fault, is, first_unread fault first)
  read_verifies choice outcome (inr (t, bytes, smaller, proof, are, v)) = inr (
    t,
    bytes,
    smaller,
    proof,
    record {
      schema_is = same_text t are.schema_is;
      file_is = are.file_is;
      output_is = are.output_is;
      certificate_is = are.certificate_is;
    },
    v,
  )

-- where it isn't read to its end, no other file has failed
pub schema_alone : (schema : Stored) (fault : Fault) → IsUnread roles.Schema schema fault
    → (is_device {T = Proof} roles.File (Err fault) ≡ false) × (is_device {T = Proof} roles.Output (Err fault) ≡ false)
    × (is_device {T = Proof} roles.Certificate (Err fault) ≡ false)
schema_alone schema fault unread = by unread
  where
    Alone : Fault → Type 0
    Alone f = (is_device {T = Proof} roles.File (Err f) ≡ false) × (is_device {T = Proof} roles.Output (Err f) ≡ false)
        × (is_device {T = Proof} roles.Certificate (Err f) ≡ false)

    by : IsUnread roles.Schema schema fault → Alone fault
    by (inl (is, fails)) = subst Alone (sym is) (refl, refl, refl)
    by (inr (inl (is, beyond, fails))) = subst Alone (sym is) (refl, refl, refl)
    by (inr (inr is)) = subst Alone (sym is) (refl, refl, refl)

-- ---- devices

-- what is answered to four texts is no device's fault
texts_wanted : (choice : Choice) (text bytes smaller proof : List ℕ) (outcome : Result Proof Fault)
    → Verifies text bytes smaller proof choice outcome → wanted_of (verify_ending outcome) ≡ 4 → ⊥
texts_wanted choice text bytes smaller proof (Ok p) v never = omega (arith, never)
texts_wanted choice text bytes smaller proof (Err fault) v never =
    elim (device_wanted Proof fault) [
      | inl met ↦ true≢false (sym met.1 ∙ no_device text bytes smaller proof choice met.0 (Err fault) v)
      | inr other ↦ other never
    ]

-- ---- files that can fail

-- the status that is wanted for a fault
abbrev status_of : Fault → ℕ
status_of fault = wanted_of (fault_ending fault)

too_large_status : (role : Role) → status_of (too_large role) ≡ 2
too_large_status roles.Schema = refl
too_large_status roles.File = refl
too_large_status roles.Output = refl
too_large_status roles.Certificate = refl

can_fail : (file : Stored) → IfSome file.fails (λ each. each ≡ true) → CanFail file
can_fail file told never = true≢false (sym (subst (λ o. IfSome o (λ each. each ≡ true)) never told))

unread_can : (role : Role) (file : Stored) (fault : Fault) → IsUnread role file fault → status_of fault ≡ 4
    → CanFail file
unread_can role file fault (inl (is, told)) device = can_fail file told
unread_can role file fault (inr (inl (is, beyond, told))) device =
    let two : status_of fault ≡ 2 = ap status_of is ∙ too_large_status role in absurd (omega (arith, device, two))
unread_can role file fault (inr (inr is)) device =
    let five : status_of fault ≡ 5 = ap status_of is in absurd (omega (arith, device, five))

first_can : (schema file output certificate : Stored) (fault : Fault)
    → FirstUnread schema file output certificate fault → status_of fault ≡ 4
    → CanFail schema ⊎ CanFail file ⊎ CanFail output ⊎ CanFail certificate
first_can schema file output certificate fault (no_schema u) device =
    inl (unread_can roles.Schema schema fault u device)
first_can schema file output certificate fault (no_file text r u) device =
    inr (inl (unread_can roles.File file fault u device))
first_can schema file output certificate fault (no_output text bytes r s u) device =
    inr (inr (inl (unread_can roles.Output output fault u device)))
first_can schema file output certificate fault (no_certificate text bytes smaller r s t u) device =
    inr (inr (inr (unread_can roles.Certificate certificate fault u device)))

all_can : (choice : Choice) (schema file output certificate : Stored) (outcome : Result Proof Fault)
    → VerifiesAll choice schema file output certificate outcome
    → (CanFail schema ⊎ CanFail file ⊎ CanFail output ⊎ CanFail certificate)
    ⊎ (wanted_of (verify_ending outcome) ≡ 4 → ⊥)
all_can choice schema file output certificate outcome (inr (text, bytes, smaller, proof, r, v)) =
    inr (texts_wanted choice text bytes smaller proof outcome v)
all_can choice schema file output certificate outcome (inl (fault, is, first)) =
    elim (device_wanted Proof fault) [
      | inl met ↦ inl (first_can schema file output certificate fault first (wants_device Proof met.0 fault met.1))
      | inr other ↦ inr (λ never. other (sym (ap (λ o. wanted_of (verify_ending o)) is) ∙ never))
    ]

pub verify_device : (writers : Writers) (words : List (List ℕ)) (files : List ℕ → Stored)
    (s f o c : List ℕ) (options : Options) (choice : Choice) (exit : Exit) → AsksVerify words s f o c options
    → RunsVerify choice (files s) (files f) (files o) (files c) exit → exit.status ≡ 4
    → IsDevices writers words files exit
verify_device writers words files s f o c options choice exit asks r is = λ fresh clean.
    elim (ends_by_devices (CanFail (files s) ⊎ CanFail (files f) ⊎ CanFail (files o) ⊎ CanFail (files c))
    (verify_ending r.outcome) exit r.ends
    (all_can choice (files s) (files f) (files o) (files c) r.outcome r.verifies) is fresh clean) [
      | inl can ↦ inr (inr (verify_command, four s f o c options, asks, can))
      | inr (inl failed) ↦ inl failed
      | inr (inr failed) ↦ inr (inl failed)
    ]

-- ---- want of memory

pub memory_verifies : (choice : Choice) (schema file output certificate : Stored) (exit : Exit) → IsUntouched exit.out → Prints exit.err (line_of file_faults.Memory) 5 exit.status
    → RunsVerify choice schema file output certificate exit
memory_verifies choice schema file output certificate exit same prints = record {
  outcome = Err (faults.Memory);
  verifies = inl (faults.Memory, refl, no_schema (inr (inr refl)));
  ends = (same, prints);
}

pub refused_verifies : (refusal : Refusal) (choice : Choice) (schema file output certificate : Stored)
    (exit : Exit) → refusal ≡ refusals.Memory
    → Refuses refusal exit
    → RunsVerify choice schema file output certificate exit
refused_verifies refusal choice schema file output certificate exit is refuses =
    let r = subst (λ m. Refuses m exit) is refuses in
    memory_verifies choice schema file output certificate exit r.0 r.1
