-- The trees that are kept of a structure are that structure.
use Rattle.std.proofs.Common.{◌≡◌, ℕ, List, [], ◌∷◌, ◌++◌, length, take, drop, map, refl, sym, ap, ◌∙◌}
use Rattle.std.proofs.lemmas.List.{take_at, drop_at}
use Rattle.step_records.specs.steps.Building.{list_of}
use Rattle.step_records.proofs.Parts.{trees_all, all_in}
use Rattle.step_structures.specs.Trees.{Tree, Record, Form, internal, external, ExchangeRow}
use Rattle.step_records.specs.steps.Records.{tree_of_record, trees_of_form}
use Rattle.step_records.specs.steps.Instances.{names_of, tree_of_row}
use Rattle.step_exchange.specs.declared.section.Section as code
use Rattle.step_exchange.specs.Views.{record_in, form_of, form_in, rows_with}
use Rattle.step_exchange.specs.Sections.{sections_of, file_of}

record_again : (p : Record) → record_in (tree_of_record p) ≡ p
record_again p = λ i. record { keyword = p.keyword; values = all_in p.values i }

pub records_again : (ps : List Record) → map record_in (map tree_of_record ps) ≡ ps
records_again [] = refl
records_again (p ∷ ps) = λ i. record_again p i ∷ records_again ps i

form_trees : (f : Form) → form_of (trees_of_form f) ≡ f
form_trees (internal p) = ap internal (record_again p)
form_trees (external []) = refl
form_trees (external (p ∷ ps)) = ap external (records_again (p ∷ ps))

form_again : (f : Form) → form_in (list_of (trees_of_form f)) ≡ f
form_again f = ap form_of (trees_all (trees_of_form f)) ∙ form_trees f

pub rows_again : (rs : List ExchangeRow) → rows_with (names_of rs) (map tree_of_row rs) ≡ rs
rows_again [] = refl
rows_again (r ∷ rs) = λ i. record { name = r.name; form = form_again r.form i } ∷ rows_again rs i

pub file_again : (header : List Record) (rows : List ExchangeRow) (ss : List code.Section) (n : ℕ) (xs : List Tree)
    (names : List ℕ) → xs ≡ map tree_of_record header ++ map tree_of_row rows → n ≡ length (map tree_of_record header)
    → names ≡ names_of rows
    → file_of n xs names ss ≡ record { header = header; sections = sections_of 0 ss rows }
file_again header rows ss n xs names e size named =
    let hs = map tree_of_record header in
    let ts = map tree_of_row rows in
    let front : map record_in (take n xs) ≡ header = ap (λ l. map record_in (take n l)) e
    ∙ ap (map record_in) (take_at hs ts n (sym size)) ∙ records_again header in
    let back : rows_with names (drop n xs) ≡ rows = (λ i. rows_with (named i) (drop n (e i)))
    ∙ ap (rows_with (names_of rows)) (drop_at hs ts n (sym size)) ∙ rows_again rows in
    λ i. record { header = front i; sections = sections_of 0 ss (back i) }
