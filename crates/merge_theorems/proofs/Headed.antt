-- The headline, put together.
use Rattle.std.specs.Prelude.{◌≡◌, ◌<◌, ◌^◌, ℕ, Bool, true, false, cond, List, [], ◌∷◌, map}
use Rattle.std.specs.List.{AllByRecursion}
use Rattle.std.proofs.Common.{refl, sym, subst, ◌∙◌}
use Rattle.step_structures.specs.Trees as trees
use Rattle.step_structures.specs.Trees.{File, rows_of}
use Rattle.step_structures.specs.Texts.{ReadsAs}
use Rattle.step_structures.proofs.MergedReads.{merged_text_reads}
use Rattle.step_structures.proofs.Bounded.{names_within}
use Rattle.value_equality.specs.Rows.{Row, names}
use Rattle.value_equality.specs.ValueEquality.{IsValueEquality}
use Rattle.value_equality.specs.Images.{head_of}
use Rattle.value_equality.specs.Tables.{shares}
use Rattle.value_equality.proofs.Congruences.{value_equality_is_congruence}
use Rattle.value_equality.proofs.Rounds.{tables_decide}
use Rattle.value_equality.proofs.Outputs.{certificates_prove}
use Rattle.express_syntax.specs.Schemas.{Schema}
use Rattle.conformance.specs.Choices.{MergeOptions}
use Rattle.conformance.specs.PopulationLaws.{ImagesConform, NoFindingsExactlyWhereItConforms}
use Rattle.merge_theorems.specs.Images.{MapsRows}
use Rattle.merge_theorems.proofs.Keywords.{keywords_stand_once}
use Rattle.merge_theorems.proofs.Filed.{files_are_laid_out}
use Rattle.merge_theorems.proofs.Conforming.{images_of_rows_conform}
use Rattle.conformance.proofs.Rowed.{same_names}
use Rattle.conformance.proofs.FileNames.{names_from}
use Rattle.conformance.specs.PlainRows.{AreRowsOf}
use Rattle.conformance.specs.SchemaMeanings.{Said, instances}
use Rattle.merge_theorems.specs.MergedFileLaws.{AreRowsOfFile, merged_by}
use Rattle.merge_theorems.specs.Headline.{IsMergeInput, MergesAreLeast, ChecksProve}
use Rattle.merge_theorems.proofs.Whole.{are_of, bags, laid, merged_files_conform, merged_files_are_least}

-- the names of rows are those of the file
pub names_of_file : (s : Schema) (said : Said s) (f : File) (P : List Row) → AreRowsOf s (instances s said f) P
    → names P ≡ map (λ (r : trees.ExchangeRow). r.name) (rows_of f.sections)
names_of_file s said f P rows =
    same_names s (instances s said f) P rows ∙ names_from s said.domain said.entities 0 f.sections

-- the names of rows of an input are those of its file
pub file_names : (s : Schema) (said : Said s) (chosen : MergeOptions) (text : List ℕ) (input : IsMergeInput s said chosen text)
    → names input.rows ≡ map (λ (r : trees.ExchangeRow). r.name) (rows_of input.file.sections)
file_names s said chosen text input = names_of_file s said input.file input.rows input.are_rows

pub head_within : (ys : List ℕ) (E : ℕ → ℕ → Bool) (x : ℕ) → x < 2 ^ 64 → AllByRecursion (λ n. n < 2 ^ 64) ys
    → head_of ys E x < 2 ^ 64
head_within [] E x l w = l
head_within (y ∷ ys) E x l w = go (E y x) (head_within ys E x l w.1)
  where
    go : (b : Bool) → head_of ys E x < 2 ^ 64 → cond b y (head_of ys E x) < 2 ^ 64
    go true more = w.0
    go false more = more

pub of_file : (s : Schema) (said : Said s) (chosen : MergeOptions) (text : List ℕ) (input : IsMergeInput s said chosen text)
    → AreRowsOfFile s said chosen.other_names input.file input.rows
of_file s said chosen text input = record {
  fits = input.reads.fits;
  rows = input.are_rows;
  population = input.population;
  conforms = input.conforms;
}

pub merges_are_least : ImagesConform → NoFindingsExactlyWhereItConforms → MergesAreLeast
merges_are_least images law s said chosen text output merge =
    let i = merge.input in
    let E = merge.equal in
    let h = head_of (names i.rows) E in
    let file = of_file s said chosen text i in
    let congruence = value_equality_is_congruence i.rows i.pinned E i.population merge.equality in
    let whole = merged_files_conform images law s said chosen i.file i.rows i.pinned E file i.pins congruence in
    let least = merged_files_are_least s said chosen i.file i.rows i.pinned E file i.pins merge.equality in
    let within : AllByRecursion (λ n. n < 2 ^ 64) (names i.rows) =
    subst (AllByRecursion (λ n. n < 2 ^ 64)) (sym (file_names s said chosen text i))
    (names_within text i.header_bytes i.file i.reads) in
    record {
      file = merged_by i.rows E i.file;
      is_merged = refl;
      reads = subst (λ t. ReadsAs t i.header_bytes (merged_by i.rows E i.file)) (sym merge.output_is)
          (merged_text_reads h (λ y l. head_within (names i.rows) E y l within) text i.header_bytes i.file i.reads);
      conforms = whole.0;
      rows = whole.1;
      image = whole.2;
      least = least.2;
    }

pub checks_prove : ImagesConform → NoFindingsExactlyWhereItConforms → ChecksProve
checks_prove images law s said chosen text output checked =
    let i = checked.input in
    let file = of_file s said chosen text i in
    let E = shares checked.second checked.second.rounds in
    let equality = tables_decide i.rows i.pinned checked.second i.population checked.second_valid in
    let proved = certificates_prove i.rows checked.rows i.pinned checked.second i.population checked.second_valid
    checked.population checked.same in
    let classes : IsValueEquality i.rows i.pins.weak i.pins.classes = i.pins.are_classes in
    let is = instances s said i.file in
    let js = instances s said checked.file in
    let are = are_of s said chosen i.file i.rows i.pinned file i.pins in
    let maps : MapsRows s is js i.rows checked.rows (head_of (names i.rows) E) i.pinned = record {
      laid_out = laid s said chosen i.file i.rows i.pinned file i.pins law;
      image_laid_out = files_are_laid_out law s said.domain said.entities are chosen.other_names checked.file
          checked.nothing
          (keywords_stand_once checked.file checked.reads.fits);
      rows = i.are_rows;
      image_rows = checked.are_rows;
      population = i.population;
      image_population = checked.population;
      image = proved.0;
    } in
    let whole = (law s said.domain said.entities are chosen.other_names i.file).0 i.conforms.nothing in
    let all = images_of_rows_conform images s said.domain said.entities said.rules chosen said.attributes
    said.are_attributes said.conditions is js i.rows checked.rows (head_of (names i.rows) E) i.pins.weak i.pinned
    i.pins.classes maps (λ y. (i.pins.are_weak y).0) classes (λ y. (i.pins.are_gentle y).1) whole.2
    i.conforms.unique i.conforms.bounded i.conforms.holds in
    record {
      equality = equality;
      conforms = record { nothing = checked.nothing; holds = all.3; unique = all.1; bounded = all.2 };
      image = proved.0;
      least = proved.1 (bags s said chosen i.file i.rows i.pinned file i.pins);
    }
