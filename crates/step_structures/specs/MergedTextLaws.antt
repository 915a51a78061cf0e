-- Laws of merged texts.
use Rattle.std.specs.Prelude.{◌≡◌, ◌<◌, ◌^◌, ℕ, List}
use Rattle.step_structures.specs.Trees.{Section, File}
use Rattle.step_structures.specs.Texts.{ReadsAs}
use Rattle.step_structures.specs.Normal.{plain_text, normal_file}
use Rattle.step_structures.specs.MergedTexts.{merged_file, merged_text}

-- If a text reads as a structure, the merged text reads as the merged structure. Only the case of words and the
-- spelling of names changes.
abbrev pub MergedTextReads : Type 0
MergedTextReads = (h : ℕ → ℕ) → ((y : ℕ) → y < 2 ^ 64 → h y < 2 ^ 64) → (text header_bytes : List ℕ) (x : File)
    → ReadsAs text header_bytes x
    → ReadsAs (merged_text h header_bytes x.sections) header_bytes (normal_file (merged_file h x))

-- If a map leaves each name unchanged, the merged text of a structure is its normal text.
abbrev pub UnmergedTextStays : Type 0
UnmergedTextStays = (h : ℕ → ℕ) → ((y : ℕ) → h y ≡ y) → (header_bytes : List ℕ) (sections : List Section)
    → merged_text h header_bytes sections ≡ plain_text header_bytes sections
