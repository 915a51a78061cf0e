-- The result of merging a file, and what a checked output proves.
use Rattle.std.specs.Prelude.{◌≡◌, ◌≤◌, ℕ, Bool, List, [], length}
use Rattle.step_structures.specs.Trees.{File, rows_of}
use Rattle.step_structures.specs.Texts.{ReadsAs}
use Rattle.value_equality.specs.Rows.{Row, names, IsPopulation, SamePopulation}
use Rattle.value_equality.specs.ValueEquality.{IsValueEquality}
use Rattle.value_equality.specs.Images.{IsImage, head_of, quotient}
use Rattle.value_equality.specs.Tables.{Table, shares, IsValid}
use Rattle.conformance.specs.Choices.{MergeOptions}
use Rattle.conformance.specs.PlainRows.{AreRowsOf}
use Rattle.express_syntax.specs.Schemas.{Schema}
use Rattle.conformance.specs.Findings.{findings}
use Rattle.step_structures.specs.MergedTexts.{merged_text}
use Rattle.conformance.specs.SchemaMeanings.{Said, instances, FileConforms}
use Rattle.merge_theorems.specs.FilePins.{ArePins}
use Rattle.merge_theorems.specs.MergedFileLaws.{merged_by}

-- The text reads as a structure that conforms to the schema, which it may call by the chosen other
-- names. These are the rows of its instances, and the instances that are pinned if those of the chosen
-- entities are merged.
pub record IsMergeInput (s : Schema) (said : Said s) (chosen : MergeOptions) (text : List ℕ) : Type 0 where
  pub header_bytes : List ℕ
  pub file : File
  pub reads : ReadsAs text header_bytes file
  pub conforms : FileConforms s said chosen.other_names file
  pub rows : List Row
  pub are_rows : AreRowsOf s (instances s said file) rows
  pub population : IsPopulation rows
  pub pinned : ℕ → Bool
  pub pins : ArePins s said chosen (instances s said file) rows pinned

-- The output is the text of the input's structure in which exactly the value-equal instances are
-- merged. A pinned instance is equal only to itself.
pub record IsMergeOf (s : Schema) (said : Said s) (chosen : MergeOptions) (text output : List ℕ) : Type 0 where
  pub input : IsMergeInput s said chosen text
  pub equal : ℕ → ℕ → Bool
  pub equality : IsValueEquality input.rows input.pinned equal
  pub output_is : output ≡ merged_text (head_of (names input.rows) equal) input.header_bytes input.file.sections

-- The output reads as the merged structure, which conforms. Its rows are those of the quotient by
-- value equality. The quotient is an image, and no image has fewer instances.
pub record IsLeast (s : Schema) (said : Said s) (chosen : MergeOptions) (text output : List ℕ) (merge : IsMergeOf s said chosen text output)
    : Type 0 where
  pub file : File
  pub is_merged : file ≡ merged_by merge.input.rows merge.equal merge.input.file
  pub reads : ReadsAs output merge.input.header_bytes file
  pub conforms : FileConforms s said chosen.other_names file
  pub rows : AreRowsOf s (instances s said file) (quotient merge.input.rows merge.equal)
  pub image : IsImage merge.input.rows (quotient merge.input.rows merge.equal) (head_of (names merge.input.rows) merge.equal)
      merge.input.pinned
  pub least : (Q : List Row) (h : ℕ → ℕ) → IsImage merge.input.rows Q h merge.input.pinned
      → length (rows_of file.sections) ≤ length Q

abbrev pub MergesAreLeast : Type 0
MergesAreLeast = (s : Schema) (said : Said s) (chosen : MergeOptions) (text output : List ℕ) (merge : IsMergeOf s said chosen text output)
    → IsLeast s said chosen text output merge

-- What a checker of tables verifies, whoever made the output and the tables. The input conforms.
-- The output reads as a structure in which nothing is wrong with any single instance. The first
-- table is valid under the weak pins, the second under the gentle pins that come from the first.
-- The rows of the output are those of the quotient by the second table, in any order.
pub record IsCheckedOutput (s : Schema) (said : Said s) (chosen : MergeOptions) (text output : List ℕ) : Type 0 where
  pub input : IsMergeInput s said chosen text
  pub header_bytes : List ℕ
  pub file : File
  pub reads : ReadsAs output header_bytes file
  pub nothing : findings s said.domain said.entities chosen.other_names file ≡ []
  pub rows : List Row
  pub are_rows : AreRowsOf s (instances s said file) rows
  pub population : IsPopulation rows
  pub first : Table
  pub second : Table
  pub first_valid : IsValid input.rows input.pins.weak first
  pub gentle : input.pins.classes ≡ shares first first.rounds
  pub second_valid : IsValid input.rows input.pinned second
  pub same : SamePopulation rows (quotient input.rows (shares second second.rounds))

-- The output conforms and is an image, and no image has fewer instances.
pub record IsLeastImage (s : Schema) (said : Said s) (chosen : MergeOptions) (text output : List ℕ) (checked : IsCheckedOutput s said chosen text output)
    : Type 0 where
  pub equality : IsValueEquality checked.input.rows checked.input.pinned (shares checked.second checked.second.rounds)
  pub conforms : FileConforms s said chosen.other_names checked.file
  pub image : IsImage checked.input.rows checked.rows
      (head_of (names checked.input.rows) (shares checked.second checked.second.rounds)) checked.input.pinned
  pub least : (Q : List Row) (h : ℕ → ℕ) → IsImage checked.input.rows Q h checked.input.pinned
      → length checked.rows ≤ length Q

abbrev pub ChecksProve : Type 0
ChecksProve = (s : Schema) (said : Said s) (chosen : MergeOptions) (text output : List ℕ) (checked : IsCheckedOutput s said chosen text output)
    → IsLeastImage s said chosen text output checked

-- A second run finds nothing more to merge, so it writes the same bytes.
abbrev pub SecondMergesStay : Type 0
SecondMergesStay = (s : Schema) (said : Said s) (chosen : MergeOptions) (text output again : List ℕ)
    → IsMergeOf s said chosen text output → IsMergeOf s said chosen output again → again ≡ output
