-- The line that reports each fault.
use Rattle.std.specs.Prelude.{ℕ, List, [], ◌∷◌, ◌++◌, Bool, true, false, codes, decimal}
use Rattle.std.specs.Bool.{if◌then◌else◌}
use Rattle.step_structures.specs.FaultTexts.{kind_text}
use Rattle.files.specs.declared.fault.Role.{Role}
use Rattle.files.specs.declared.fault.Role.TheVariants.{Schema, File, Output, Certificate}
use Rattle.files.specs.declared.fault.FileFault.{FileFault}
use Rattle.files.specs.declared.fault.FileFault.TheVariants.{Text, Device, Memory}

abbrev pub role_text : Role → List ℕ
role_text Schema = codes "schema"
role_text File = codes "file"
role_text Output = codes "output"
role_text Certificate = codes "certificate"

-- the roles for which the line of a device fault states how many bytes were written
abbrev pub is_counted : Role → Bool
is_counted Schema = false
is_counted File = false
is_counted Output = true
is_counted Certificate = true

-- the number of bytes written, for a role whose line states it
abbrev pub count_text : Role → ℕ → List ℕ
count_text role written = if is_counted role then codes " after " ++ decimal written ++ codes " bytes" else []

abbrev pub fault_text : FileFault → List ℕ
fault_text (Text role kind place) = role_text role ++ codes ": " ++ kind_text kind ++ codes " at byte " ++ decimal place
fault_text (Device role written) = codes "device: " ++ role_text role ++ count_text role written
fault_text Memory = codes "memory"

-- the text of a fault and a line end
abbrev pub line_of : FileFault → List ℕ
line_of fault = fault_text fault ++ 10 ∷ []
