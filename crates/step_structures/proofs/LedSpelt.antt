-- The words of a merged structure are spelt where those of the structure are.
use Rattle.std.proofs.Common.{◌≡◌, ℕ, ◌<◌, ◌^◌, Bool, true, false, cond, List, [], ◌∷◌, ◌++◌, map, codes}
use Rattle.std.specs.Prelude.{◌==◌, filter}
use Rattle.step_lexer.specs.declared.token.Mark.TheVariants.{Close, Semicolon}
use Rattle.step_structures.specs.Words.{Word, name, mark}
use Rattle.step_structures.specs.Trees.{Tree, leaf, typed, group, Trees, none, one, Record, Form, internal, external, ExchangeRow, Section, Item, this, items_of_tree, items_of_trees, items_of_more, items_of_record, items_of_partial_records, items_of_form, items_of_row, items_of_rows, items_of_heading, items_of_section, items_of_sections, items_of_end, section}
use Rattle.step_structures.proofs.Spelling.{IsSpelt, AllSpelt}
use Rattle.step_structures.specs.MergedTexts.{led_word, led_tree, led_trees, led_record, led_form, led_row, merged_rows, merged_section, merged_sections}

pub spelt_front : (xs ys : List Item) → AllSpelt (xs ++ ys) → AllSpelt xs
spelt_front [] ys s = tt
spelt_front (x ∷ xs) ys s = (s.0, spelt_front xs ys s.1)

pub spelt_back : (xs ys : List Item) → AllSpelt (xs ++ ys) → AllSpelt ys
spelt_back [] ys s = s
spelt_back (x ∷ xs) ys s = spelt_back xs ys s.1

pub spelt_both : (xs ys : List Item) → AllSpelt xs → AllSpelt ys → AllSpelt (xs ++ ys)
spelt_both [] ys s t = t
spelt_both (x ∷ xs) ys s t = (s.0, spelt_both xs ys s.1 t)

-- what stands in front of others changes
changed : (xs us ys : List Item) → (AllSpelt xs → AllSpelt us) → AllSpelt (xs ++ ys) → AllSpelt (us ++ ys)
changed xs us ys f s = spelt_both us ys (f (spelt_front xs ys s)) (spelt_back xs ys s)

-- if items stay spelt in both of two lists, they do in the lists together
both : (xs us ys vs : List Item) → (AllSpelt xs → AllSpelt us) → (AllSpelt ys → AllSpelt vs) → AllSpelt (xs ++ ys)
    → AllSpelt (us ++ vs)
both xs us ys vs f g s = spelt_both us vs (f (spelt_front xs ys s)) (g (spelt_back xs ys s))

module _ (h : ℕ → ℕ) (within : (y : ℕ) → y < 2 ^ 64 → h y < 2 ^ 64) where
  word_spelt : (w : Word) → IsSpelt w → IsSpelt (led_word h w)
  word_spelt (name y text) s = within y s
  word_spelt w s = s

  mutual
    tree_spelt : (x : Tree) → AllSpelt (items_of_tree x) → AllSpelt (items_of_tree (led_tree h x))
    tree_spelt (leaf w) s = (word_spelt w s.0, tt)
    tree_spelt (typed text x) s = (
      s.0,
      (s.1.0, changed (items_of_tree x) (items_of_tree (led_tree h x)) (this (mark Close) ∷ []) (tree_spelt x) s.1.1),
    )
    tree_spelt (group xs) s =
        (s.0, changed (items_of_trees xs) (items_of_trees (led_trees h xs)) (this (mark Close) ∷ []) (trees_spelt xs) s.1)

    trees_spelt : (xs : Trees) → AllSpelt (items_of_trees xs) → AllSpelt (items_of_trees (led_trees h xs))
    trees_spelt none s = tt
    trees_spelt (one x xs) s =
        both (items_of_tree x) (items_of_tree (led_tree h x)) (items_of_more xs) (items_of_more (led_trees h xs))
        (tree_spelt x) (more_spelt xs) s

    more_spelt : (xs : Trees) → AllSpelt (items_of_more xs) → AllSpelt (items_of_more (led_trees h xs))
    more_spelt none s = tt
    more_spelt (one x xs) s = (
      s.0,
      both (items_of_tree x) (items_of_tree (led_tree h x)) (items_of_more xs) (items_of_more (led_trees h xs))
          (tree_spelt x) (more_spelt xs) s.1,
    )

  record_spelt : (p : Record) → AllSpelt (items_of_record p) → AllSpelt (items_of_record (led_record h p))
  record_spelt p s = (
    s.0,
    (
      s.1.0,
      changed (items_of_trees p.values) (items_of_trees (led_trees h p.values)) (this (mark Close) ∷ [])
          (trees_spelt p.values) s.1.1,
    ),
  )

  partials_spelt : (ps : List Record) → AllSpelt (items_of_partial_records ps)
      → AllSpelt (items_of_partial_records (map (led_record h) ps))
  partials_spelt [] s = tt
  partials_spelt (p ∷ ps) s =
      both (items_of_record p) (items_of_record (led_record h p)) (items_of_partial_records ps)
      (items_of_partial_records (map (led_record h) ps)) (record_spelt p) (partials_spelt ps) s

  form_spelt : (f : Form) → AllSpelt (items_of_form f) → AllSpelt (items_of_form (led_form h f))
  form_spelt (internal p) s = record_spelt p s
  form_spelt (external ps) s = (
    s.0,
    changed (items_of_partial_records ps) (items_of_partial_records (map (led_record h) ps)) (this (mark Close) ∷ [])
        (partials_spelt ps) s.1,
  )

  row_spelt : (r : ExchangeRow) → AllSpelt (items_of_row r) → AllSpelt (items_of_row (led_row h r))
  row_spelt r s = (
    s.0,
    (
      s.1.0,
      changed (items_of_form r.form) (items_of_form (led_form h r.form)) (this (mark Semicolon) ∷ [])
          (form_spelt r.form) s.1.1,
    ),
  )

  rows_spelt : (rs : List ExchangeRow) → AllSpelt (items_of_rows rs) → AllSpelt (items_of_rows (merged_rows h rs))
  rows_spelt [] s = tt
  rows_spelt (r ∷ rs) s =
      go (h r.name == r.name) (spelt_front (items_of_row r) (items_of_rows rs) s)
      (rows_spelt rs (spelt_back (items_of_row r) (items_of_rows rs) s))
    where
      go : (b : Bool) → AllSpelt (items_of_row r) → AllSpelt (items_of_rows (merged_rows h rs))
          → AllSpelt (items_of_rows (map (led_row h)
          (cond b (r ∷ filter (λ (q : ExchangeRow). h q.name == q.name) rs) (filter (λ (q : ExchangeRow). h q.name == q.name) rs))))
      go true own more = spelt_both (items_of_row (led_row h r)) (items_of_rows (merged_rows h rs)) (row_spelt r own) more
      go false own more = more

  section_spelt : (x : Section) → AllSpelt (items_of_section x) → AllSpelt (items_of_section (merged_section h x))
  section_spelt x s =
      let end = section (codes "ENDSEC") in
      let tail = this (mark Semicolon) ∷ (items_of_rows x.rows ++ end) in
      let back = spelt_back (items_of_heading x.heading) tail s.1 in (
        s.0,
        spelt_both (items_of_heading x.heading) (this (mark Semicolon) ∷ (items_of_rows (merged_rows h x.rows) ++ end))
            (spelt_front (items_of_heading x.heading) tail s.1)
            (back.0, changed (items_of_rows x.rows) (items_of_rows (merged_rows h x.rows)) end (rows_spelt x.rows) back.1),
      )

  sections_spelt : (xs : List Section) → AllSpelt (items_of_sections xs)
      → AllSpelt (items_of_sections (merged_sections h xs))
  sections_spelt [] s = tt
  sections_spelt (x ∷ xs) s =
      both (items_of_section x) (items_of_section (merged_section h x)) (items_of_sections xs)
      (items_of_sections (merged_sections h xs)) (section_spelt x) (sections_spelt xs) s

  pub data_spelt : (xs : List Section) → AllSpelt (items_of_sections xs ++ items_of_end)
      → AllSpelt (items_of_sections (merged_sections h xs) ++ items_of_end)
  data_spelt xs s =
      changed (items_of_sections xs) (items_of_sections (merged_sections h xs)) items_of_end (sections_spelt xs) s
