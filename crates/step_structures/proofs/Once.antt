-- A text reads as one structure at most, and then it has no fault.
use Rattle.std.proofs.Common.{◌-◌, List, [], ◌∷◌, ◌++◌, take, drop, sym, ap, ◌∙◌, subst, append_assoc, arith}
use Rattle.parsing.specs.Tables.{lookaheads}
use Rattle.parsing.proofs.Lists.{lookaheads_append}
use Rattle.parsing.proofs.Faults as table_faults
use Rattle.parsing.proofs.Shown.{shows_join}
use Rattle.parsing.proofs.Texts as texts
use Rattle.step_lexer.specs.Reading.{Reading, start}
use Rattle.step_lexer.proofs.Determined.{same_place}
use Rattle.step_structures.specs.Words.{Lookahead, LocatedToken, Shows, ShowsAll}
use Rattle.step_structures.specs.Trees.{MeetAll, items_of_header, items_of_sections, items_of_end, items_of_file}
use Rattle.step_structures.specs.Fits.{the_rules}
use Rattle.step_structures.specs.Texts.{ReadsOnce, ReadsWithoutFault}
use Rattle.step_structures.specs.steps.Predict.{header_symbols, data_symbols, file_symbols, table, IsFile}
use Rattle.step_structures.proofs.Meeting.{located_join, meet_as}
use Rattle.step_structures.proofs.Shown.{shown_once}
use Rattle.step_structures.proofs.Passing.{pass_header, pass_rest}
use Rattle.step_structures.proofs.Unique.{same_header, same_rest}
use Rattle.step_structures.proofs.Forms.{Little}
use Rattle.step_structures.proofs.Complete.{exact}
use Rattle.step_structures.proofs.Prefixes.{of_front, front_whole}
use Rattle.step_structures.proofs.FirstFault.{shown_up_to}

-- a text reads as one structure at most, with the same header bytes
pub reads_once : ReadsOnce
reads_once text header_bytes other x y h k =
    let header = texts.passes_once Shows shown_once table header_symbols (start text) h.headed k.headed h.header.0
    k.header.0 h.header.1 k.header.1 (pass_header the_rules x.header h.fits.0 (lookaheads h.header.0) h.header.2)
    (pass_header the_rules y.header k.fits.0 (lookaheads k.header.0) k.header.2) in
    let P : Reading → Type 0 = λ a. ShowsAll a k.sections.0 k.end in
    let sections = texts.passes_once Shows shown_once table data_symbols h.headed h.end k.end h.sections.0 k.sections.0
    h.sections.1
    (subst P (sym header.1) k.sections.1)
    (pass_rest the_rules x.sections h.fits.1 (lookaheads h.sections.0) h.sections.2)
    (pass_rest the_rules y.sections k.fits.1 (lookaheads k.sections.0) k.sections.2) in
    let H : List LocatedToken → Type 0 = λ s. MeetAll (lookaheads s) (items_of_header y.header) in
    let D : List LocatedToken → Type 0 = λ s. MeetAll (lookaheads s) (items_of_sections y.sections ++ items_of_end) in
    let headers = same_header x.header y.header the_rules (lookaheads h.header.0) h.fits.0 k.fits.0 h.header.2
    (subst H (sym header.0) k.header.2) in
    let bodies = same_rest x.sections y.sections the_rules [] (lookaheads h.sections.0) h.fits.1.2 k.fits.1.2
    h.sections.2
    (subst D (sym sections.0) k.sections.2) in
    let first = same_place (start text) h.first k.first h.begins k.begins in (
      h.header_bytes_are ∙ (λ i. take ((header.1 i).place - first i) (drop (first i) text)) ∙ sym k.header_bytes_are,
      (λ i. record { header = headers i; sections = bodies i }),
    )

-- a text that reads as a structure has no fault
pub reads_no_fault : ReadsWithoutFault
reads_no_fault text header_bytes x kind place h f =
    let s = h.header.0 ++ h.sections.0 in
    let shown = shows_join Shows (start text) h.header.0 h.headed h.sections.0 h.end h.header.1 h.sections.1 in
    let met : MeetAll (lookaheads s) (items_of_file x) = meet_as (lookaheads s) (items_of_header x.header
    ++ (items_of_sections x.sections ++ items_of_end)) (items_of_file x)
    (sym (append_assoc (items_of_header x.header) (items_of_sections x.sections) items_of_end)) (located_join h.header.0
    h.sections.0 (items_of_header x.header) (items_of_sections x.sections ++ items_of_end) h.header.2 h.sections.2) in
    let t = texts.whole_through Shows shown_once (IsFile the_rules) (table_faults.whole_ends table (Little the_rules)
    file_symbols (IsFile the_rules) (exact the_rules (omega arith) (omega arith))) (start text) h.end f.next s f.before
    f.at shown
    (x, h.fits, met) (shown_up_to text kind place f) (of_front the_rules (lookaheads f.before) f.viable)
    (λ m. f.unended m.0 m.1 m.2) in
    let through = f.before ++ f.at ∷ [] in
    let P : List Lookahead → Type 0 = λ l. MeetAll l (items_of_file x) in
    f.refused (front_whole x (lookaheads through) (lookaheads t.0) h.fits h.schema
    (subst P (ap lookaheads t.1 ∙ lookaheads_append through t.0) met))
