-- A second run.
use Rattle.std.specs.Prelude.{◌≡◌, ℕ, List, [], ◌∷◌}
use Rattle.std.proofs.Common.{sym, subst, ◌∙◌}
use Rattle.step_structures.specs.Trees.{File, Section}
use Rattle.step_structures.specs.Texts.{ReadsAs}
use Rattle.step_structures.proofs.Once.{reads_once}
use Rattle.step_structures.specs.MergedTexts.{merged_text}
use Rattle.value_equality.specs.Rows.{names}
use Rattle.value_equality.specs.ValueEquality.{IsValueEquality}
use Rattle.value_equality.specs.Images.{head_of, quotient}
use Rattle.conformance.specs.PlainRows.{AreRowsOf}
use Rattle.conformance.proofs.RowOneness.{rows_are_one}
use Rattle.conformance.specs.PopulationLaws.{ImagesConform, NoFindingsExactlyWhereItConforms}
use Rattle.conformance.specs.SchemaMeanings.{instances}
use Rattle.merge_theorems.specs.FilePins.{ArePins}
use Rattle.merge_theorems.specs.MergedFileLaws.{merged_by}
use Rattle.merge_theorems.specs.Headline.{SecondMergesStay}
use Rattle.merge_theorems.proofs.Headed.{of_file, merges_are_least}
use Rattle.merge_theorems.proofs.PinsStay.{second_runs_stay}

abbrev sections_of : File → List Section
sections_of x = x.sections

pub second_merges_stay : ImagesConform → NoFindingsExactlyWhereItConforms → SecondMergesStay
second_merges_stay images law s said chosen text output again merge second =
    let i = merge.input in
    let j = second.input in
    let E = merge.equal in
    let G = second.equal in
    let g = merged_by i.rows E i.file in
    let least = merges_are_least images law s said chosen text output merge in
    let one = reads_once output j.header_bytes i.header_bytes j.file g j.reads
    (subst (λ x. ReadsAs output i.header_bytes x) least.is_merged least.reads) in
    let rows : j.rows ≡ quotient i.rows E =
    rows_are_one s (instances s said g) j.rows (quotient i.rows E)
    (subst (λ x. AreRowsOf s (instances s said x) j.rows) one.1 j.are_rows)
    (subst (λ x. AreRowsOf s (instances s said x) (quotient i.rows E)) least.is_merged least.rows) in
    let pins : ArePins s said chosen (instances s said g) (quotient i.rows E) j.pinned =
    subst (λ R. ArePins s said chosen (instances s said g) R j.pinned) rows
    (subst (λ x. ArePins s said chosen (instances s said x) j.rows j.pinned) one.1 j.pins) in
    let equality : IsValueEquality (quotient i.rows E) j.pinned G =
    subst (λ R. IsValueEquality R j.pinned G) rows second.equality in
    let stays = second_runs_stay law s said chosen i.file i.rows i.pinned j.pinned E G (of_file s said chosen text i)
    i.pins merge.equality pins equality i.header_bytes in
    second.output_is
    ∙ (λ k. merged_text (head_of (names (rows k)) G) (one.0 k) (sections_of (one.1 k)))
    ∙ stays ∙ sym merge.output_is
