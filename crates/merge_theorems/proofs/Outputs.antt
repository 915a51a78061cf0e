-- What is written by a table, whatever the rules say of the file.
use Rattle.std.specs.Prelude.{◌<◌, ◌^◌, ℕ, Bool, List}
use Rattle.std.specs.List.{AllByRecursion}
use Rattle.std.proofs.Common.{sym, subst}
use Rattle.step_structures.specs.Trees.{File}
use Rattle.step_structures.specs.Texts.{ReadsAs}
use Rattle.step_structures.specs.Normal.{normal_file}
use Rattle.step_structures.specs.MergedTexts.{merged_file, merged_text}
use Rattle.step_structures.proofs.MergedReads.{merged_text_reads}
use Rattle.step_structures.proofs.Bounded.{names_within}
use Rattle.value_equality.specs.Rows.{Row, names, IsPopulation}
use Rattle.value_equality.specs.ValueEquality.{IsCongruence}
use Rattle.value_equality.specs.Images.{IsImage, head_of, quotient}
use Rattle.value_equality.specs.Tables.{Table, shares, HasMembers}
use Rattle.value_equality.proofs.Quotients.{quotients_are_images}
use Rattle.conformance.specs.PlainRows.{AreRowsOf}
use Rattle.conformance.specs.SchemaMeanings.{Said, instances}
use Rattle.express_syntax.specs.Schemas.{Schema}
use Rattle.merge_theorems.specs.MergedFileLaws.{OutputsAreQuotients}
use Rattle.merge_theorems.proofs.Headed.{head_within, names_of_file}
use Rattle.merge_theorems.proofs.Whole.{merged_populations_are_led}

module _ (s : Schema) (said : Said s) (text header_bytes : List ℕ) (f : File) (P : List Row) (pinned : ℕ → Bool)
    (F : ℕ → ℕ → Bool) (reads : ReadsAs text header_bytes f) (rows : AreRowsOf s (instances s said f) P)
    (population : IsPopulation P) (congruence : IsCongruence P pinned F) where
  -- what is to be shown, by a map of names
  abbrev Shown : (ℕ → ℕ) → Type 0
  Shown h =
      ReadsAs (merged_text h header_bytes f.sections) header_bytes (normal_file (merged_file h f))
      × AreRowsOf s (instances s said (normal_file (merged_file h f))) (quotient P F)
      × IsImage P (quotient P F) h pinned × IsPopulation (quotient P F)

  by_heads : Shown (head_of (names P) F)
  by_heads =
      let h = head_of (names P) F in
      let within : AllByRecursion (λ n. n < 2 ^ 64) (names P) =
      subst (AllByRecursion (λ n. n < 2 ^ 64)) (sym (names_of_file s said f P rows)) (names_within text header_bytes f reads) in
      let image = quotients_are_images P pinned F population congruence in (
        merged_text_reads h (λ y l. head_within (names P) F y l within) text header_bytes f reads,
        (merged_populations_are_led s said.domain said.entities h f).1 P rows,
        image.0,
        image.1,
      )

pub outputs_are_quotients : OutputsAreQuotients
outputs_are_quotients s said text header_bytes f P pinned t reads rows population members congruence =
    let F = shares t t.rounds in
    subst (λ ys. Shown s said text header_bytes f P pinned F reads rows population congruence (head_of ys F)) (sym members)
    (by_heads s said text header_bytes f P pinned F reads rows population congruence)
