-- The text of sections within the limits, whose words are spelt, reads as they are.
use Rattle.std.proofs.Common.{◌≡◌, ℕ, List, ◌∷◌, ◌++◌, length, sym, subst, append_assoc, codes}
use Rattle.parsing.specs.Tables.{lookaheads}
use Rattle.step_structures.specs.Trees.{Section, File, MeetAll, items_of_sections, items_of_end}
use Rattle.step_structures.specs.Fits.{the_rules, FitsSections}
use Rattle.step_structures.specs.Texts.{ReadsAs}
use Rattle.step_structures.specs.Normal.{plain_sections, plain_text, normal_sections}
use Rattle.step_structures.proofs.HeaderKept.{at}
use Rattle.step_structures.proofs.HeaderAgain.{header_again}
use Rattle.step_structures.proofs.Spelling.{AllSpelt, all_spelt}
use Rattle.step_structures.proofs.Written.{written_reads}
use Rattle.step_structures.proofs.PlainLemmas.{sections_written}
use Rattle.step_structures.proofs.NormalLemmas as normal
use Rattle.step_structures.specs.MergedTexts.{merged_sections}
use Rattle.step_structures.specs.MergedTextLaws.{MergedTextReads}
use Rattle.step_structures.proofs.LedSpelt.{data_spelt}
use Rattle.step_structures.proofs.LedFits as merged

-- what stands behind the header bytes
abbrev behind : List Section → List ℕ
behind sections = 10 ∷ (plain_sections sections ++ codes "END-ISO-10303-21;\n")

plain_is : (header_bytes : List ℕ) (sections : List Section) → header_bytes ++ behind sections ≡ plain_text header_bytes
    sections
plain_is header_bytes sections = simp append_assoc

-- other sections behind the header of what a text reads as
pub sections_read : (text header_bytes : List ℕ) (x : File) (ys : List Section) → ReadsAs text header_bytes x
    → AllSpelt (items_of_sections ys ++ items_of_end) → FitsSections the_rules ys
    → ReadsAs (plain_text header_bytes ys) header_bytes (record { header = x.header; sections = normal_sections ys })
sections_read text header_bytes x ys h spelt fits =
    let f = header_again text header_bytes x (behind ys) h in
    let r = written_reads (items_of_sections ys ++ items_of_end) (header_bytes ++ behind ys) (behind ys)
    (length header_bytes) f.within f.behind spelt (sections_written ys) in
    let again : ReadsAs (header_bytes ++ behind ys) header_bytes (record {
      header = x.header;
      sections = normal_sections ys;
    }) = record {
      fits = (h.fits.0, normal.sections_fit the_rules ys fits);
      schema = h.schema;
      headed = at (header_bytes ++ behind ys) (length header_bytes);
      end = r.0;
      header = f.reads;
      sections = (r.1.0, r.1.1, subst (MeetAll (lookaheads r.1.0)) (sym (normal.data_items ys)) r.1.2);
      first = 0;
      begins = f.begins;
      header_bytes_are = f.header_bytes_are;
    } in
    subst (λ t. ReadsAs t header_bytes (record { header = x.header; sections = normal_sections ys }))
    (plain_is header_bytes ys) again

pub merged_text_reads : MergedTextReads
merged_text_reads h within text header_bytes x r =
    let spelt = all_spelt (items_of_sections x.sections ++ items_of_end) r.sections.0 r.headed r.end r.sections.1
    r.sections.2 in
    sections_read text header_bytes x (merged_sections h x.sections) r (data_spelt h within x.sections spelt)
    (merged.sections_fit h x.sections r.fits.1)
