-- What the code computes; no promise is stated here. Results on the way, where sources and sinks reveal only part
-- of their bytes.
use Rattle.std.specs.Prelude.{◌≡◌, List, [], ℕ, Option, IfSome, Bool, true, false, Result, Ok, Err}
use Rattle.std.specs.Io.KnownBytes.{Appends, Keeps}
use Rattle.devices.specs.Emits.{EmitsFront}
use Rattle.express_syntax.specs.Schemas.{Schema}
use Rattle.schema_semantics.specs.Parts.{AreUnchecked}
use Rattle.files.specs.declared.fault.Role.{Role}
use Rattle.files.specs.declared.fault.Role.TheVariants as roles
use Rattle.files.specs.declared.fault.FileFault.{FileFault}
use Rattle.files.specs.declared.fault.FileFault.TheVariants as files
use Rattle.reports.specs.declared.fault.Fault.{Fault}
use Rattle.shrinking.specs.declared.summary.Summary.{Summary}
use Rattle.shrinking.specs.Shrinking.{FileAnswers, Written}
use Rattle.conformance.specs.Choices.{Choice, MergeOptions}
use Rattle.conformance.specs.OtherNames.{other_names}
use Rattle.schema_names.specs.declared.names.Names.{Names}
use Rattle.schema_names.specs.Schemas.{the_schema}
use Rattle.checking.specs.Checks.{IsResolvedSchemaText}

-- both texts are written, `text` first
abbrev pub Writes : Written → Written → List ℕ → List ℕ → Result Unit FileFault → Type 0
Writes out cert text certified (Ok _) = Appends out.before out.after text × Appends cert.before cert.after certified
Writes out cert text certified (Err (files.Device roles.Output written)) =
    EmitsFront out.before out.after text written × Keeps cert.before cert.after
Writes out cert text certified (Err (files.Device roles.Certificate written)) =
    Appends out.before out.after text × EmitsFront cert.before cert.after certified written
Writes out cert text certified (Err files.Memory) = Keeps out.before out.after × Keeps cert.before cert.after
Writes out cert text certified (Err f) = ⊥

-- the fault is that of the sink in this role
abbrev pub is_written : Role → Result Unit FileFault → Bool
is_written roles.Output (Err (files.Device roles.Output written)) = true
is_written roles.Certificate (Err (files.Device roles.Certificate written)) = true
is_written role r = false

-- a strict choice refuses the schema
abbrev pub IsRefused : Bool → Schema → Type 0
IsRefused strict s = (strict ≡ true) × (∥ AreUnchecked s [] ∥₁ → ⊥)

-- The text reads as the schema to which the names belong, and the choice has the other names of this schema.
abbrev pub IsTextFor : Names → Choice → List ℕ → Type 0
IsTextFor n c text = IsResolvedSchemaText (the_schema n) text × (c.other_names ≡ other_names n.schema.now)

-- the result for a file of these bytes, and what is written
pub record FileShrinks (s : Schema) (chosen : MergeOptions) (bytes : List ℕ) (to_output to_certificate : Written)
    (result : Result Summary Fault) : Type 0 where
  pub output : List ℕ
  pub certificate : List ℕ
  pub answers : FileAnswers s chosen bytes output certificate result
  pub written : Appends to_output.before to_output.after output
  pub certified : Appends to_certificate.before to_certificate.after certificate

-- the result for a file that a source delivers, and what is written; `file` are the bytes to come, if they are
-- revealed
pub record SourceShrinks (s : Schema) (chosen : MergeOptions) (file : Option (List ℕ)) (to_output to_certificate : Written)
    (result : Result Summary Fault) : Type 0 where
  pub bytes : List ℕ
  pub bytes_are : IfSome file (λ b. b ≡ bytes)
  pub shrinks : FileShrinks s chosen bytes to_output to_certificate result
