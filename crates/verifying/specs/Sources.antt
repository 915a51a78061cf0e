-- What is returned for four files: a schema, an input, an output and a certificate.
use Rattle.std.specs.Prelude.{◌≡◌, ◌≤◌, ◌<◌, ◌^◌, ◌⊎◌, ℕ, List, length, Some, IfSome, true, false, Result, Err}
use Rattle.conformance.specs.Choices.{Choice}
use Rattle.files.specs.Stores.{Stored}
use Rattle.files.specs.declared.fault.Role.{Role}
use Rattle.files.specs.declared.fault.Role.TheVariants as roles
use Rattle.reports.specs.Faults.{too_large}
use Rattle.reports.specs.declared.fault.Fault.{Fault}
use Rattle.reports.specs.declared.fault.Fault.TheVariants as faults
use Rattle.verifying.specs.Verifying.{Verifies}
use Rattle.verifying.specs.declared.proof.Proof.{Proof}

-- a file whose text is given: no read of it fails
abbrev pub given : List ℕ → Stored
given text = record { contents = Some text; fails = Some false }

-- The file was read to its end, and this is its text.
pub record IsWholeText (file : Stored) (text : List ℕ) : Type 0 where
  pub text_is : IfSome file.contents (λ bytes. bytes ≡ text)
  pub within : length text ≤ 2 ^ 40
  pub fails : IfSome file.fails (λ each. each ≡ false)

-- The file wasn't read to its end, for this reason: its device failed, it has more than 2^40 bytes, or memory ran
-- out.
abbrev pub IsUnread : Role → Stored → Fault → Type 0
IsUnread role file fault =
    ((fault ≡ faults.Device role 0) × IfSome file.fails (λ each. each ≡ true))
    ⊎ ((fault ≡ too_large role) × IfSome file.contents (λ bytes. 2 ^ 40 < length bytes)
    × IfSome file.fails (λ each. each ≡ false))
    ⊎ (fault ≡ faults.Memory)

-- The fault of the first of the four files that wasn't read to its end, in this order.
pub data FirstUnread (schema file output certificate : Stored) (fault : Fault) : Type 0 where
  no_schema : IsUnread roles.Schema schema fault → FirstUnread schema file output certificate fault
  no_file : (text : List ℕ) → IsWholeText schema text → IsUnread roles.File file fault
      → FirstUnread schema file output certificate fault
  no_output : (text bytes : List ℕ) → IsWholeText schema text → IsWholeText file bytes → IsUnread roles.Output output fault
      → FirstUnread schema file output certificate fault
  no_certificate : (text bytes smaller : List ℕ) → IsWholeText schema text → IsWholeText file bytes → IsWholeText output smaller
      → IsUnread roles.Certificate certificate fault → FirstUnread schema file output certificate fault

-- All four files were read to their ends, and these are their texts.
pub record TextsAreRead (schema file output certificate : Stored) (text bytes smaller proof : List ℕ) : Type 0 where
  pub schema_is : IsWholeText schema text
  pub file_is : IsWholeText file bytes
  pub output_is : IsWholeText output smaller
  pub certificate_is : IsWholeText certificate proof

-- What `verify_files` returns: the fault of the first file that isn't read, or the result of `verify` for their
-- texts.
abbrev pub VerifiesAll : Choice → Stored → Stored → Stored → Stored → Result Proof Fault → Type 0
VerifiesAll choice schema file output certificate outcome =
    ((fault : Fault) × (outcome ≡ Err fault) × FirstUnread schema file output certificate fault)
    ⊎ ((text : List ℕ) × (bytes : List ℕ) × (smaller : List ℕ) × (proof : List ℕ)
    × TextsAreRead schema file output certificate text bytes smaller proof
    × Verifies text bytes smaller proof choice outcome)
