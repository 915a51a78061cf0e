-- The normal text of what a text reads as reads as the same.
use Rattle.std.proofs.Common.{◌≡◌, ℕ, List, ◌∷◌, ◌++◌, length, sym, subst, append_assoc, codes}
use Rattle.parsing.specs.Tables.{lookaheads}
use Rattle.step_structures.specs.Trees.{Section, MeetAll, items_of_sections, items_of_end}
use Rattle.step_structures.specs.Fits.{the_rules}
use Rattle.step_structures.specs.Texts.{ReadsAs}
use Rattle.step_structures.specs.Normal.{plain_sections, plain_text, normal_sections, NormalReadsAgain}
use Rattle.step_structures.proofs.HeaderKept.{at}
use Rattle.step_structures.proofs.HeaderAgain.{header_again}
use Rattle.step_structures.proofs.Spelling.{all_spelt}
use Rattle.step_structures.proofs.Written.{written_reads}
use Rattle.step_structures.proofs.PlainLemmas.{sections_written}
use Rattle.step_structures.proofs.NormalLemmas.{data_items, sections_fit}

-- what stands behind the header bytes
abbrev behind : List Section → List ℕ
behind sections = 10 ∷ (plain_sections sections ++ codes "END-ISO-10303-21;\n")

plain_is : (header_bytes : List ℕ) (sections : List Section) → header_bytes ++ behind sections ≡ plain_text header_bytes
    sections
plain_is header_bytes sections = simp append_assoc

-- the normal text reads again, with the same header bytes
pub normal_reads_again : NormalReadsAgain
normal_reads_again text header_bytes x h =
    let f = header_again text header_bytes x (behind x.sections) h in
    let spelt = all_spelt (items_of_sections x.sections ++ items_of_end) h.sections.0 h.headed h.end h.sections.1
    h.sections.2 in
    let r = written_reads (items_of_sections x.sections ++ items_of_end) (header_bytes ++ behind x.sections)
    (behind x.sections)
    (length header_bytes) f.within f.behind spelt (sections_written x.sections) in
    let again : ReadsAs (header_bytes ++ behind x.sections) header_bytes (record {
      header = x.header;
      sections = normal_sections x.sections;
    }) = record {
      fits = (h.fits.0, sections_fit the_rules x.sections h.fits.1);
      schema = h.schema;
      headed = at (header_bytes ++ behind x.sections) (length header_bytes);
      end = r.0;
      header = f.reads;
      sections = (r.1.0, r.1.1, subst (MeetAll (lookaheads r.1.0)) (sym (data_items x.sections)) r.1.2);
      first = 0;
      begins = f.begins;
      header_bytes_are = f.header_bytes_are;
    } in
    subst (λ t. ReadsAs t header_bytes (record {
      header = x.header;
      sections = normal_sections x.sections;
    })) (plain_is header_bytes x.sections) again
