-- The names of a structure that is read have 64 bits.
use Rattle.std.proofs.Common.{◌≡◌, ℕ, ◌<◌, ◌^◌, List, [], ◌∷◌, ◌++◌, map}
use Rattle.std.specs.List.{AllByRecursion}
use Rattle.std.specs.Prelude.{codes}
use Rattle.step_structures.specs.Words.{mark}
use Rattle.step_lexer.specs.declared.token.Mark.TheVariants.{Semicolon}
use Rattle.step_structures.specs.Trees.{ExchangeRow, Section, File, rows_of, this, items_of_row, items_of_rows, items_of_heading, items_of_section, items_of_sections, items_of_end, section}
use Rattle.step_structures.specs.Texts.{ReadsAs}
use Rattle.step_structures.proofs.Spelling.{AllSpelt, all_spelt}
use Rattle.step_structures.proofs.LedSpelt.{spelt_front, spelt_back}

abbrev Within : List ℕ → Type 0
Within ns = AllByRecursion (λ n. n < 2 ^ 64) ns

abbrev names_in : List ExchangeRow → List ℕ
names_in rows = map (λ (r : ExchangeRow). r.name) rows

row_names : (rs : List ExchangeRow) → AllSpelt (items_of_rows rs) → Within (names_in rs)
row_names [] s = tt
row_names (r ∷ rs) s = (
  (spelt_front (items_of_row r) (items_of_rows rs) s).0,
  row_names rs (spelt_back (items_of_row r) (items_of_rows rs) s),
)

both : (xs ys : List ExchangeRow) → Within (names_in xs) → Within (names_in ys) → Within (names_in (xs ++ ys))
both [] ys f g = g
both (x ∷ xs) ys f g = (f.0, both xs ys f.1 g)

section_names : (xs : List Section) → AllSpelt (items_of_sections xs) → Within (names_in (rows_of xs))
section_names [] s = tt
section_names (x ∷ xs) s =
    let end = section (codes "ENDSEC") in
    let own = spelt_front (items_of_section x) (items_of_sections xs) s in
    let tail = spelt_back (items_of_heading x.heading) (this (mark Semicolon) ∷ (items_of_rows x.rows ++ end)) own.1 in
    both x.rows (rows_of xs) (row_names x.rows (spelt_front (items_of_rows x.rows) end tail.1))
    (section_names xs (spelt_back (items_of_section x) (items_of_sections xs) s))

pub names_within : (text header_bytes : List ℕ) (x : File) → ReadsAs text header_bytes x
    → AllByRecursion (λ n. n < 2 ^ 64) (map (λ (r : ExchangeRow). r.name) (rows_of x.sections))
names_within text header_bytes x r =
    section_names x.sections (spelt_front (items_of_sections x.sections) items_of_end
    (all_spelt (items_of_sections x.sections ++ items_of_end) r.sections.0 r.headed r.end r.sections.1 r.sections.2))
