-- What the normal text says of a structure: its items, that it is read too, and its own normal text.
use Rattle.std.proofs.Common.{◌≡◌, ℕ, ◌+◌, false, ◌||◌, List, [], ◌∷◌, ◌++◌, Option, Some, None, map, refl, sym, ap, ◌∙◌, subst, codes}
use Rattle.std.specs.Str.{bytes_eq}
use Rattle.std.proofs.lemmas.List.{map-append, length-map}
use Rattle.std.proofs.lemmas.Str.Ascii.{uppercase-uppercase}
use Rattle.step_lexer.specs.declared.token.Mark.TheVariants.{Open, Close, Comma, Semicolon, Equals, Dollar, Asterisk}
use Rattle.step_structures.specs.Words.{Word, keyword, user_defined, name, number, element, string, binary, mark}
use Rattle.step_structures.specs.Trees.{Tree, leaf, typed, group, Trees, none, one, Record, Form, internal, external, ExchangeRow, Section, rows_of, Item, this, says, named, is_said, items_of_tree, items_of_trees, items_of_more, items_of_record, items_of_partial_records, items_of_form, items_of_row, items_of_rows, items_of_heading, items_of_section, items_of_sections, items_of_end, section}
use Rattle.step_structures.specs.Fits.{StructureRules, IsLeaf, FitsTree, FitsTrees, FitsRecord, FitsPartialRecords, FitsForm, FitsRows, FitsSections, Where, has_keyword}
use Rattle.step_literals.specs.Words.{upper}
use Rattle.step_structures.specs.Normal.{plain_word, plain_name, plain_tree, plain_trees, plain_more, plain_record, plain_partial_records, plain_form, plain_rows, plain_heading, plain_sections, normal_word, normal_tree, normal_trees, normal_record, normal_form, normal_row, normal_rows, normal_section, normal_sections, NormalStays}
use Rattle.step_structures.proofs.Spelling.{lower_upper}
use Rattle.step_structures.proofs.Written.{normal_item}

abbrev normals : List Item → List Item
normals is = map normal_item is

both_normal : (xs ys us vs : List Item) → us ≡ normals xs → vs ≡ normals ys → us ++ vs ≡ normals (xs ++ ys)
both_normal xs ys us vs e q = (λ i. e i ++ q i) ∙ sym (map-append normal_item xs ys)

mutual
  tree_items : (x : Tree) → items_of_tree (normal_tree x) ≡ normals (items_of_tree x)
  tree_items (leaf w) = refl
  tree_items (typed text x) = ap (λ l. this (keyword (upper text)) ∷ this (mark Open) ∷ l)
      (both_normal (items_of_tree x) (this (mark Close) ∷ []) _ _ (tree_items x) refl)
  tree_items (group xs) = ap (λ l. this (mark Open) ∷ l) (both_normal (items_of_trees xs) (this (mark Close) ∷ []) _ _
      (trees_items xs) refl)

  trees_items : (xs : Trees) → items_of_trees (normal_trees xs) ≡ normals (items_of_trees xs)
  trees_items none = refl
  trees_items (one x xs) = both_normal (items_of_tree x) (items_of_more xs) _ _ (tree_items x) (more_items xs)

  more_items : (xs : Trees) → items_of_more (normal_trees xs) ≡ normals (items_of_more xs)
  more_items none = refl
  more_items (one x xs) = ap (λ l. this (mark Comma) ∷ l) (both_normal (items_of_tree x) (items_of_more xs) _ _
      (tree_items x) (more_items xs))

record_items : (p : Record) → items_of_record (normal_record p) ≡ normals (items_of_record p)
record_items p = ap (λ l. this (keyword (upper p.keyword)) ∷ this (mark Open) ∷ l)
    (both_normal (items_of_trees p.values) (this (mark Close) ∷ []) _ _ (trees_items p.values) refl)

partial_records_items : (ps : List Record)
    → items_of_partial_records (map normal_record ps) ≡ normals (items_of_partial_records ps)
partial_records_items [] = refl
partial_records_items (p ∷ ps) =
    both_normal (items_of_record p) (items_of_partial_records ps) _ _ (record_items p) (partial_records_items ps)

form_items : (f : Form) → items_of_form (normal_form f) ≡ normals (items_of_form f)
form_items (internal p) = record_items p
form_items (external ps) = ap (λ l. this (mark Open) ∷ l) (both_normal (items_of_partial_records ps) (this (mark Close)
    ∷ []) _ _ (partial_records_items ps) refl)

row_items : (r : ExchangeRow) → items_of_row (normal_row r) ≡ normals (items_of_row r)
row_items r = ap (λ l. named r.name ∷ this (mark Equals) ∷ l) (both_normal (items_of_form r.form) (this (mark Semicolon)
    ∷ []) _ _ (form_items r.form) refl)

rows_items : (rs : List ExchangeRow) → items_of_rows (normal_rows rs) ≡ normals (items_of_rows rs)
rows_items [] = refl
rows_items (r ∷ rs) = both_normal (items_of_row r) (items_of_rows rs) _ _ (row_items r) (rows_items rs)

heading_items : (h : Option (List ℕ × List ℕ)) → items_of_heading h ≡ normals (items_of_heading h)
heading_items None = refl
heading_items (Some h) = refl

section_items : (x : Section) → items_of_section (normal_section x) ≡ normals (items_of_section x)
section_items x =
    let semi = this (mark Semicolon) in
    let end = section (codes "ENDSEC") in
    ap (λ l. says (codes "DATA") ∷ l) (both_normal (items_of_heading x.heading) (semi ∷ (items_of_rows x.rows ++ end)) _
    _ (heading_items x.heading) (ap (λ l. semi ∷ l) (both_normal (items_of_rows x.rows) end _ _ (rows_items x.rows)
    refl)))

sections_items : (xs : List Section) → items_of_sections (normal_sections xs) ≡ normals (items_of_sections xs)
sections_items [] = refl
sections_items (x ∷ xs) = both_normal (items_of_section x) (items_of_sections xs) _ _ (section_items x)
    (sections_items xs)

-- the items of the normal sections are those of the sections with normal words
pub data_items : (xs : List Section) → items_of_sections (normal_sections xs) ++ items_of_end ≡ map normal_item
    (items_of_sections xs ++ items_of_end)
data_items xs = both_normal (items_of_sections xs) items_of_end _ _ (sections_items xs) refl

leaf_normal : (w : Word) → IsLeaf w → IsLeaf (normal_word w)
leaf_normal (mark Dollar) h = tt
leaf_normal (mark Asterisk) h = tt
leaf_normal (name n text) h = tt
leaf_normal (number text) h = tt
leaf_normal (element text) h = tt
leaf_normal (string text) h = tt
leaf_normal (binary text) h = tt
leaf_normal _ h = absurd h

module _ (rules : StructureRules) where
  mutual
    tree_fits : (n : ℕ) (x : Tree) → FitsTree rules n x → FitsTree rules n (normal_tree x)
    tree_fits n (leaf w) h = leaf_normal w h
    tree_fits n (typed text x) h = (h.0, tree_fits (n + 1) x h.1)
    tree_fits n (group xs) h = (h.0, trees_fit (n + 1) xs h.1)

    trees_fit : (n : ℕ) (xs : Trees) → FitsTrees rules n xs → FitsTrees rules n (normal_trees xs)
    trees_fit n none h = tt
    trees_fit n (one x xs) h = (tree_fits n x h.0, trees_fit n xs h.1)

  record_fits : (n : ℕ) (p : Record) → FitsRecord rules n p → FitsRecord rules n (normal_record p)
  record_fits n p h = (h.0, trees_fit (n + 1) p.values h.1)

  said_upper : (v w : List ℕ) → is_said (upper v) (upper w) ≡ is_said v w
  said_upper v w = (λ i. bytes_eq (lower_upper v i) (lower_upper w i))

  keyword_upper : (word : List ℕ) (ws : List (List ℕ)) → has_keyword (upper word) (map upper ws) ≡ has_keyword word ws
  keyword_upper word [] = refl
  keyword_upper word (w ∷ ws) = (λ i. said_upper w word i || keyword_upper word ws i)

  partial_records_fit : (before : List (List ℕ)) (ps : List Record) → FitsPartialRecords rules before ps
      → FitsPartialRecords rules (map upper before) (map normal_record ps)
  partial_records_fit before [] h = tt
  partial_records_fit before (p ∷ ps) h = (
    subst (λ b. Where rules.distinct (b ≡ false)) (sym (keyword_upper p.keyword before)) h.0,
    record_fits 1 p h.1,
    subst (λ l. FitsPartialRecords rules l (map normal_record ps)) (map-append upper before (p.keyword ∷ []))
        (partial_records_fit (before ++ p.keyword ∷ []) ps h.2),
  )

  form_fits : (f : Form) → FitsForm rules f → FitsForm rules (normal_form f)
  form_fits (internal p) h = record_fits 0 p h
  form_fits (external ps) h = (h.0, rw length-map h.1, partial_records_fit [] ps h.2)

  -- what fits fits as the normal text says it
  pub rows_fit : (before : List ℕ) (rs : List ExchangeRow) → FitsRows rules before rs → FitsRows rules before (normal_rows rs)
  rows_fit before [] h = tt
  rows_fit before (r ∷ rs) h = (h.0, h.1, form_fits r.form h.2, rows_fit (before ++ r.name ∷ []) rs h.3)

rows_normal : (xs : List Section) → rows_of (normal_sections xs) ≡ normal_rows (rows_of xs)
rows_normal [] = refl
rows_normal (x ∷ xs) = ap (λ l. normal_rows x.rows ++ l) (rows_normal xs) ∙ sym (map-append normal_row x.rows
    (rows_of xs))

pub sections_fit : (rules : StructureRules) (xs : List Section) → FitsSections rules xs → FitsSections rules (normal_sections xs)
sections_fit rules xs h = (
  rw length-map h.0,
  rw length-map h.1,
  subst (FitsRows rules []) (sym (rows_normal xs)) (rows_fit rules [] (rows_of xs) h.2),
)

upper_upper : (w : List ℕ) → upper (upper w) ≡ upper w
upper_upper [] = refl
upper_upper (x ∷ xs) = λ i. uppercase-uppercase x i ∷ upper_upper xs i

word_stays : (w : Word) → plain_word (normal_word w) ≡ plain_word w
word_stays (keyword text) = upper_upper text
word_stays (user_defined text) = ap (λ l. codes "!" ++ l) (upper_upper text)
word_stays (element text) = ap (λ l. codes "." ++ l ++ codes ".") (upper_upper text)
word_stays _ = refl

mutual
  tree_stays : (x : Tree) → plain_tree (normal_tree x) ≡ plain_tree x
  tree_stays (leaf w) = word_stays w
  tree_stays (typed text x) = λ i. upper_upper text i ++ codes "(" ++ tree_stays x i ++ codes ")"
  tree_stays (group xs) = λ i. codes "(" ++ trees_stay xs i ++ codes ")"

  trees_stay : (xs : Trees) → plain_trees (normal_trees xs) ≡ plain_trees xs
  trees_stay none = refl
  trees_stay (one x xs) = λ i. tree_stays x i ++ more_stays xs i

  more_stays : (xs : Trees) → plain_more (normal_trees xs) ≡ plain_more xs
  more_stays none = refl
  more_stays (one x xs) = λ i. codes "," ++ tree_stays x i ++ more_stays xs i

record_stays : (p : Record) → plain_record (normal_record p) ≡ plain_record p
record_stays p = λ i. upper_upper p.keyword i ++ codes "(" ++ trees_stay p.values i ++ codes ")"

partial_records_stay : (ps : List Record) → plain_partial_records (map normal_record ps) ≡ plain_partial_records ps
partial_records_stay [] = refl
partial_records_stay (p ∷ ps) = λ i. record_stays p i ++ partial_records_stay ps i

form_stays : (f : Form) → plain_form (normal_form f) ≡ plain_form f
form_stays (internal p) = record_stays p
form_stays (external ps) = λ i. codes "(" ++ partial_records_stay ps i ++ codes ")"

rows_stay : (rs : List ExchangeRow) → plain_rows (normal_rows rs) ≡ plain_rows rs
rows_stay [] = refl
rows_stay (r ∷ rs) = λ i. (plain_name r.name ++ codes "=" ++ form_stays r.form i ++ codes ";\n") ++ rows_stay rs i

sections_stay : (xs : List Section) → plain_sections (normal_sections xs) ≡ plain_sections xs
sections_stay [] = refl
sections_stay (x ∷ xs) = λ i. (codes "DATA" ++ plain_heading x.heading ++ codes ";\n" ++ rows_stay x.rows i
    ++ codes "ENDSEC;\n") ++ sections_stay xs i

-- the normal text of the sections as it says them is the same text
pub normal_stays : NormalStays
normal_stays header_bytes sections = λ i. header_bytes ++ codes "\n" ++ sections_stay sections i
    ++ codes "END-ISO-10303-21;\n"
