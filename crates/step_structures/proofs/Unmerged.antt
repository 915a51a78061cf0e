-- A map that leads each name to itself changes nothing.
use Rattle.std.proofs.Common.{◌≡◌, ℕ, Bool, cond, List, [], ◌∷◌, ◌++◌, map, refl, ap, ◌∙◌, eq-eqb}
use Rattle.std.specs.Prelude.{◌==◌, filter}
use Rattle.step_structures.specs.Words.{Word, name}
use Rattle.step_structures.specs.Trees.{Tree, leaf, typed, group, Trees, none, one, Record, Form, internal, external, ExchangeRow, Section}
use Rattle.step_structures.specs.Normal.{plain_text}
use Rattle.step_structures.specs.MergedTexts.{led_word, led_tree, led_trees, led_record, led_form, led_row, merged_rows, merged_section, merged_sections}
use Rattle.step_structures.specs.MergedTextLaws.{UnmergedTextStays}

module _ (h : ℕ → ℕ) (stays : (y : ℕ) → h y ≡ y) where
  word_stays : (w : Word) → led_word h w ≡ w
  word_stays (name y text) = ap (λ n. name n text) (stays y)
  word_stays w = refl

  mutual
    pub tree_stays : (x : Tree) → led_tree h x ≡ x
    tree_stays (leaf w) = ap leaf (word_stays w)
    tree_stays (typed text x) = ap (typed text) (tree_stays x)
    tree_stays (group xs) = ap group (trees_stay xs)

    trees_stay : (xs : Trees) → led_trees h xs ≡ xs
    trees_stay none = refl
    trees_stay (one x xs) = λ i. one (tree_stays x i) (trees_stay xs i)

  record_stays : (p : Record) → led_record h p ≡ p
  record_stays p = ap (λ vs. record { keyword = p.keyword; values = vs }) (trees_stay p.values)

  records_stay : (ps : List Record) → map (led_record h) ps ≡ ps
  records_stay [] = refl
  records_stay (p ∷ ps) = λ i. record_stays p i ∷ records_stay ps i

  form_stays : (f : Form) → led_form h f ≡ f
  form_stays (internal p) = ap internal (record_stays p)
  form_stays (external ps) = ap external (records_stay ps)

  row_stays : (r : ExchangeRow) → led_row h r ≡ r
  row_stays r = ap (λ f. record { name = r.name; form = f }) (form_stays r.form)

  rows_stay : (rs : List ExchangeRow) → merged_rows h rs ≡ rs
  rows_stay [] = refl
  rows_stay (r ∷ rs) =
      ap (λ (b : Bool). map (led_row h) (cond b (r ∷ filter (λ (q : ExchangeRow). h q.name == q.name) rs)
      (filter (λ (q : ExchangeRow). h q.name == q.name) rs))) (eq-eqb (h r.name) r.name (stays r.name))
      ∙ (λ i. row_stays r i ∷ rows_stay rs i)

  section_stays : (x : Section) → merged_section h x ≡ x
  section_stays x = ap (λ rs. record { heading = x.heading; rows = rs }) (rows_stay x.rows)

  pub sections_stay : (xs : List Section) → merged_sections h xs ≡ xs
  sections_stay [] = refl
  sections_stay (x ∷ xs) = λ i. section_stays x i ∷ sections_stay xs i

pub unmerged_text_stays : UnmergedTextStays
unmerged_text_stays h stays header_bytes sections =
    ap (plain_text header_bytes) (sections_stay h stays sections)
