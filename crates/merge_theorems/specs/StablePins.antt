-- Pins in images, and a second run.
use Rattle.std.specs.Prelude.{◌≡◌, ℕ, Bool, List}
use Rattle.step_structures.specs.Trees.{File}
use Rattle.step_structures.specs.MergedTexts.{merged_text}
use Rattle.value_equality.specs.Rows.{Row, names, IsName}
use Rattle.value_equality.specs.ValueEquality.{IsValueEquality}
use Rattle.value_equality.specs.Images.{head_of, quotient}
use Rattle.express_syntax.specs.Schemas.{Schema}
use Rattle.conformance.specs.Choices.{MergeOptions}
use Rattle.conformance.specs.Populations.{Instance}
use Rattle.merge_theorems.specs.Images.{MapsRows}
use Rattle.conformance.specs.SchemaMeanings.{Said, instances}
use Rattle.merge_theorems.specs.FilePins.{ArePins}
use Rattle.merge_theorems.specs.MergedFileLaws.{AreRowsOfFile, merged_by}

-- Let rows be mapped so that no other instance is mapped to the image of a pinned one. Then an
-- instance is pinned exactly if its image is, though the pins of the image are computed anew.
abbrev pub ImagesKeepPins : Type 0
ImagesKeepPins = (s : Schema) (said : Said s) (chosen : MergeOptions) (is js : List Instance) (P Q : List Row) (h : ℕ → ℕ)
    (pinned kept : ℕ → Bool) → MapsRows s is js P Q h pinned → ArePins s said chosen is P pinned
    → ArePins s said chosen js Q kept → (y : ℕ) → IsName P y → kept (h y) ≡ pinned y

-- A second run on a merged file writes the same text.
abbrev pub SecondRunsStay : Type 0
SecondRunsStay = (s : Schema) (said : Said s) (chosen : MergeOptions) (f : File) (P : List Row) (pinned kept : ℕ → Bool)
    (F G : ℕ → ℕ → Bool) → AreRowsOfFile s said chosen.other_names f P
    → ArePins s said chosen (instances s said f) P pinned
    → IsValueEquality P pinned F
    → ArePins s said chosen (instances s said (merged_by P F f)) (quotient P F) kept
    → IsValueEquality (quotient P F) kept G → (header_bytes : List ℕ)
    → merged_text (head_of (names (quotient P F)) G) header_bytes (merged_by P F f).sections
    ≡ merged_text (head_of (names P) F) header_bytes f.sections
