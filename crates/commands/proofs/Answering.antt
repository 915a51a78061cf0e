-- What `plain` answers for the bytes that a source gave to its end.
use Rattle.std.proofs.Common.{◌≡◌, ◌≤◌, ◌^◌, ℕ, List, Option, IfSome, length, Err, refl, sym, subst}
use Rattle.std.proofs.KnownBytes.{Consumes-whole}
use Rattle.std.specs.Io.KnownBytes.{Consumes, IsAtEnd}
use Rattle.devices.specs.declared.device.WriteFault.{WriteFault}
use Rattle.devices.specs.Emits.{EmitsFront}
use Rattle.step_structures.specs.Normal.{plain_text}
use Rattle.step_structures.specs.Texts.{ReadsAs}
use Rattle.step_structures.specs.Trees.{File}
use Rattle.files.specs.declared.fault.Role.TheVariants as roles
use Rattle.files.specs.declared.fault.FileFault.{FileFault}
use Rattle.files.specs.Faults.{write_fault}
use Rattle.commands.specs.Plain.{HasPlain, Plain}

-- they read as a structure
pub gave_plain : (coming left : Option (List ℕ)) (bytes header_bytes : List ℕ) (file : File)
    → Consumes coming left bytes → IsAtEnd left → length bytes ≤ 2 ^ 40
    → ReadsAs bytes header_bytes file → IfSome coming (HasPlain (plain_text header_bytes file.sections))
gave_plain coming left bytes header_bytes file gave end within reads =
    Consumes-whole coming left bytes (HasPlain (plain_text header_bytes file.sections)) gave end (record {
      within = within;
      header_bytes = header_bytes;
      file = file;
      reads = reads;
      text_is = refl;
    })

-- a front of the text went out
pub cut_short : (coming old new : Option (List ℕ)) (text : List ℕ) (fault : WriteFault) (met : FileFault)
    → met ≡ write_fault roles.Output fault
    → IfSome coming (HasPlain text) → EmitsFront old new text fault.written → Plain coming old new (Err met)
cut_short coming old new text fault met e whole emits =
    subst (λ (x : FileFault). Plain coming old new (Err x)) (sym e) (text, whole, emits)
