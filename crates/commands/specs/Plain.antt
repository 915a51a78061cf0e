-- What `plain` returns, and what it writes.
use Rattle.std.specs.Prelude.{◌≡◌, ◌≤◌, ◌<◌, ◌^◌, ◌⊎◌, ℕ, List, length, Option, IfSome, Bool, true, false, Result, Ok, Err}
use Rattle.std.specs.Io.KnownBytes.{Appends, Keeps}
use Rattle.step_structures.specs.declared.fault.FaultKind.{FaultKind}
use Rattle.step_structures.specs.declared.fault.FaultKind.TheVariants.{LeftOut}
use Rattle.step_structures.specs.declared.fault.LeftOut.TheVariants.{TooLarge}
use Rattle.devices.specs.Emits.{EmitsFront}
use Rattle.step_structures.specs.Normal.{plain_text}
use Rattle.step_structures.specs.Texts.{ReadsAs, IsFirstFault}
use Rattle.step_structures.specs.Trees as trees
use Rattle.files.specs.declared.fault.Role.TheVariants.{File, Output}
use Rattle.files.specs.declared.fault.FileFault.{FileFault}
use Rattle.files.specs.declared.fault.FileFault.TheVariants.{Text, Device, Memory}

-- The bytes are at most 2^40 and read as an exchange structure, whose normal text is `text`.
pub record HasPlain (text bytes : List ℕ) : Type 0 where
  pub within : length bytes ≤ 2 ^ 40
  pub header_bytes : List ℕ
  pub file : trees.File
  pub reads : ReadsAs bytes header_bytes file
  pub text_is : text ≡ plain_text header_bytes file.sections

-- The bytes are more than 2^40, or this is the first fault in them.
abbrev pub HasFault : FaultKind → ℕ → List ℕ → Type 0
HasFault kind place bytes = (2 ^ 40 < length bytes × (kind ≡ LeftOut TooLarge) × (place ≡ 2 ^ 40))
    ⊎ (length bytes ≤ 2 ^ 40 × IsFirstFault bytes kind place)

-- What `plain` returns for the bytes to come, if they are revealed: a slice reveals them, a file doesn't. The
-- output holds `old` before and `new` after, if it reveals that. The normal text was written, or nothing, or a
-- prefix of the text whose length is counted.
abbrev pub Plain : Option (List ℕ) → Option (List ℕ) → Option (List ℕ) → Result Unit FileFault → Type 0
Plain coming old new (Ok _) = (text : List ℕ) × IfSome coming (HasPlain text) × Appends old new text
Plain coming old new (Err (Text File kind place)) = IfSome coming (HasFault kind place) × Keeps old new
Plain coming old new (Err (Text _ kind place)) = ⊥
Plain coming old new (Err (Device File written)) = (written ≡ 0) × Keeps old new
Plain coming old new (Err (Device Output written)) = (text : List ℕ) × IfSome coming (HasPlain text)
    × EmitsFront old new text written
Plain coming old new (Err (Device _ written)) = ⊥
Plain coming old new (Err Memory) = Keeps old new

abbrev pub is_file_fault : Result Unit FileFault → Bool
is_file_fault (Err (Device File written)) = true
is_file_fault _ = false

abbrev pub is_output_fault : Result Unit FileFault → Bool
is_output_fault (Err (Device Output written)) = true
is_output_fault _ = false

-- If each read fails (`true`), the result is the file's fault. If none does, it isn't. Memory may run out first.
abbrev pub FailsAs : Result Unit FileFault → Bool → Type 0
FailsAs (Err Memory) each = Unit {0}
FailsAs result each = is_file_fault result ≡ each
