-- What was read of a text, from its beginning to its end.
use Rattle.std.proofs.Common.{◌≡◌, ℕ, ◌≤◌, List, [], ◌++◌, length, take, drop, map, sym, ap, ◌∙◌, subst, ◌+◌, arith, length-append}
use Rattle.std.proofs.lemmas.List.{length-map}
use Rattle.step_lexer.specs.Reading.{Reading, start, start_of}
use Rattle.step_structures.specs.declared.fault.TextFault.{TextFault}
use Rattle.step_structures.specs.Trees.{ExchangeRow, File}
use Rattle.step_structures.specs.Texts.{ReadsAs, IsFaultOf}
use Rattle.step_structures.specs.steps.Predict.{data_symbols}
use Rattle.step_records.specs.steps.Readers.{Progress, reading}
use Rattle.step_records.specs.steps.Steps.{StopsIn}
use Rattle.step_records.specs.steps.Records.{tree_of_record}
use Rattle.step_records.specs.steps.Instances.{tree_of_row}
use Rattle.step_exchange.specs.declared.section.Section as code
use Rattle.step_exchange.specs.Sections.{sections_of, file_of}
use Rattle.step_exchange.specs.steps.Steps.{TakesHeader, StopsInHeader}
use Rattle.step_exchange.specs.steps.Keeping.{KeepsHeader, KeepsData}
use Rattle.step_exchange.proofs.Again.{file_again}
use Rattle.step_exchange.proofs.Outcome.{header_is_fault, data_is_fault, is_read}
use Rattle.step_exchange.proofs.Places.{header_bounds}

-- nothing is read of a text yet
abbrev pub begun : List ℕ → Progress
begun text = record { place = start_of text; built = record { text = text; kept = []; pending = [] } }

header_takes : (text : List ℕ) (r mid : Progress) (first : ℕ) → r ≡ begun text → (h : KeepsHeader r first mid)
    → TakesHeader (start text) first h.header (reading mid)
header_takes text r mid first e h =
    let P : Reading → Type 0 = λ x. TakesHeader x first h.header (reading mid) in subst P (ap reading e) h.takes

pub header_stops_text : (text : List ℕ) (e : TextFault) (r : Progress) → r ≡ begun text → StopsInHeader e (reading r)
    → IsFaultOf text e
header_stops_text text e r b h = let P : Reading → Type 0 = λ x. StopsInHeader e x in
    header_is_fault text e (subst P (ap reading b) h)

pub data_stops_text : (text : List ℕ) (e : TextFault) (r mid : Progress) (first : ℕ) → r ≡ begun text
    → KeepsHeader r first mid → StopsIn e data_symbols [] (reading mid) → IsFaultOf text e
data_stops_text text e r mid first b h g =
    data_is_fault text e first h.header (reading mid) (header_takes text r mid first b h) g

pub places_of : (text : List ℕ) (r mid : Progress) (first : ℕ) → r ≡ begun text → KeepsHeader r first mid
    → (first ≤ mid.place) × (mid.place ≤ length text)
places_of text r mid first b h = header_bounds text first h.header (reading mid) (header_takes text r mid first b h)

pub text_reads : (text opened header_bytes : List ℕ) (r mid end : Progress) (first place n : ℕ) (ss : List code.Section)
    (names : List ℕ) → r ≡ begun text → KeepsHeader r first mid → n ≡ length mid.built.kept → KeepsData ss names mid end
    → place ≡ mid.place → opened ≡ take place text → header_bytes ≡ drop first opened
    → ReadsAs text header_bytes (file_of n end.built.kept names ss)
text_reads text opened header_bytes r mid end first place n ss names b h size d p o f =
    let kept : mid.built.kept ≡ map tree_of_record h.header = ap (λ x. x.kept) h.keeps
    ∙ ap (λ x. x.built.kept ++ map tree_of_record h.header) b in
    let all = ap (λ x. x.kept) d.keeps ∙ ap (λ l. l ++ map tree_of_row d.rows) kept in
    let file : file_of n end.built.kept names ss ≡ record {
      header = h.header;
      sections = sections_of 0 ss d.rows;
    } = file_again h.header d.rows ss n end.built.kept names all (size ∙ ap length kept) d.named in
    let P : File → Type 0 = λ x. ReadsAs text header_bytes x in
    subst P (sym file) (is_read text header_bytes opened first place h.header (sections_of 0 ss d.rows) (reading mid)
    (reading end) (header_takes text r mid first b h) d.takes p o f)

pub trees_match : (mid end : Progress) (n : ℕ) (ss : List code.Section) (names : List ℕ)
    → n ≡ length mid.built.kept → KeepsData ss names mid end → length end.built.kept ≡ n + length names
trees_match mid end n ss names size d = omega (
  arith,
  size,
  ap length (ap (λ x. x.kept) d.keeps),
  length-append mid.built.kept (map tree_of_row d.rows),
  length-map d.rows tree_of_row,
  ap length d.named,
  length-map d.rows (λ (r : ExchangeRow). r.name),
)
