-- The laws of merged files.
use Rattle.std.specs.Prelude.{◌≡◌, ◌≤◌, ℕ, Bool, List, length, map}
use Rattle.step_structures.specs.Trees.{File, rows_of}
use Rattle.step_structures.specs.Fits.{the_rules, FitsFile}
use Rattle.step_structures.specs.Normal.{normal_file}
use Rattle.step_structures.specs.Texts.{ReadsAs}
use Rattle.step_structures.specs.MergedTexts.{merged_file, merged_text}
use Rattle.value_equality.specs.Rows.{Row, names, IsPopulation, BagsArePinned}
use Rattle.value_equality.specs.ValueEquality.{IsValueEquality, IsCongruence}
use Rattle.value_equality.specs.Images.{IsImage, head_of, quotient}
use Rattle.value_equality.specs.Tables.{Table, shares, HasMembers}
use Rattle.schema_semantics.specs.Names.{Name}
use Rattle.conformance.specs.Choices.{MergeOptions}
use Rattle.conformance.specs.PlainRows.{AreRowsOf}
use Rattle.express_syntax.specs.Schemas.{Schema}
use Rattle.conformance.specs.Bases.{Domain}
use Rattle.conformance.specs.Entities.{Entities}
use Rattle.conformance.specs.Populations.{population_of}
use Rattle.conformance.specs.SchemaMeanings.{Said, instances, FileConforms}
use Rattle.merge_theorems.specs.FilePins.{ArePins}
use Rattle.merge_theorems.specs.MergedPopulations.{merged_instances, merged_rows}

-- The population of a merged file is the merged population, and its rows are the merged rows.
abbrev pub MergedPopulationsAreLed : Type 0
MergedPopulationsAreLed = (s : Schema) (d : Domain) (en : Entities) (h : ℕ → ℕ) (f : File)
    → (population_of s d en (normal_file (merged_file h f)) ≡ merged_instances h (population_of s d en f))
    × ((P : List Row) → AreRowsOf s (population_of s d en f) P
    → AreRowsOf s (population_of s d en (normal_file (merged_file h f))) (merged_rows h P))

-- the file merged according to a test of equality
abbrev pub merged_by : List Row → (ℕ → ℕ → Bool) → File → File
merged_by P F f = normal_file (merged_file (head_of (names P) F) f)

-- maps a name to the first member of its class at the last round
abbrev pub head_by : Table → ℕ → ℕ
head_by t = head_of (map (λ m. m.0) t.members) (shares t t.rounds)

-- Let a text be merged by the classes of a table's last round, and let these be a congruence. Then
-- the output reads as the merged structure. Its rows are those of the quotient, which is a
-- population and an image. This holds whether or not the schema's rules are satisfied.
abbrev pub OutputsAreQuotients : Type 0
OutputsAreQuotients = (s : Schema) (said : Said s) (text header_bytes : List ℕ) (f : File) (P : List Row) (pinned : ℕ → Bool)
    (t : Table) → ReadsAs text header_bytes f → AreRowsOf s (instances s said f) P → IsPopulation P → HasMembers P t
    → IsCongruence P pinned (shares t t.rounds)
    → ReadsAs (merged_text (head_by t) header_bytes f.sections) header_bytes (normal_file (merged_file (head_by t) f))
    × AreRowsOf s (instances s said (normal_file (merged_file (head_by t) f))) (quotient P (shares t t.rounds))
    × IsImage P (quotient P (shares t t.rounds)) (head_by t) pinned × IsPopulation (quotient P (shares t t.rounds))

-- P are the rows of the instances of a file that is read, that may call the schema by these other names, and that
-- conforms
pub record AreRowsOfFile (s : Schema) (said : Said s) (others : List Name) (f : File) (P : List Row) : Type 0 where
  pub fits : FitsFile the_rules f
  pub rows : AreRowsOf s (instances s said f) P
  pub population : IsPopulation P
  pub conforms : FileConforms s said others f

-- If a file is merged by a congruence under gentle pins, the merged file conforms, its rows are
-- those of the quotient, and the quotient is an image.
abbrev pub MergedFilesConform : Type 0
MergedFilesConform = (s : Schema) (said : Said s) (chosen : MergeOptions) (f : File) (P : List Row) (pinned : ℕ → Bool)
    (F : ℕ → ℕ → Bool) → AreRowsOfFile s said chosen.other_names f P
    → ArePins s said chosen (instances s said f) P pinned
    → IsCongruence P pinned F
    → FileConforms s said chosen.other_names (merged_by P F f)
    × AreRowsOf s (instances s said (merged_by P F f)) (quotient P F)
    × IsImage P (quotient P F) (head_of (names P) F) pinned × IsPopulation (quotient P F)

-- Each reference in a bag of more than one value names a pinned instance. So if a file is merged by
-- value equality, no image has fewer instances.
abbrev pub MergedFilesAreLeast : Type 0
MergedFilesAreLeast = (s : Schema) (said : Said s) (chosen : MergeOptions) (f : File) (P : List Row) (pinned : ℕ → Bool)
    (F : ℕ → ℕ → Bool) → AreRowsOfFile s said chosen.other_names f P
    → ArePins s said chosen (instances s said f) P pinned
    → IsValueEquality P pinned F
    → BagsArePinned P pinned
    × (length (rows_of (merged_by P F f).sections) ≡ length (quotient P F))
    × ((Q : List Row) (h : ℕ → ℕ) → IsImage P Q h pinned → length (rows_of (merged_by P F f).sections) ≤ length Q)
