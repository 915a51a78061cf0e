-- What is revealed of a file that is opened, or created, at its first use.
use Rattle.std.specs.Prelude.{◌≡◌, ℕ, List, Option, None, Some}

-- If the opener or maker reveals the content of the file, that is the content until the file is there, and then
-- what the file itself reveals.
abbrev pub told : {F : Type 0} → (F → Option (List ℕ)) → Option (List ℕ) → Option F → Option (List ℕ)
told of_file None file = None
told of_file (Some bytes) None = Some bytes
told of_file (Some bytes) (Some file) = of_file file

-- The file reveals the content that was revealed before, if any.
abbrev pub TellsAs : Option (List ℕ) → Option (List ℕ) → Type 0
TellsAs None of_file = Unit {0}
TellsAs (Some bytes) of_file = of_file ≡ Some bytes

-- For a file that is opened once: what the opener reveals before, and what the file itself reveals once it is open.
abbrev pub told_once : {O F : Type 0} → (O → Option (List ℕ)) → (F → Option (List ℕ)) → Option O → Option F → Option (List ℕ)
told_once holds of_file opener (Some file) = of_file file
told_once holds of_file (Some opener) None = holds opener
told_once holds of_file None None = None
