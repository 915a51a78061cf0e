-- The normal text is written word by word.
use Rattle.std.proofs.Common.{◌≡◌, ℕ, List, [], ◌∷◌, ◌++◌, Option, Some, None, refl, sym, subst, inl, inr, codes, append_assoc, true}
use Rattle.step_lexer.specs.declared.token.Mark.TheVariants.{Open, Close, Comma, Semicolon, Equals}
use Rattle.step_lexer.specs.declared.token.Mark.{Mark}
use Rattle.step_lexer.specs.Front.{mark_byte}
use Rattle.step_lexer.proofs.Closers.{is_closer}
use Rattle.step_structures.specs.Words.{Word, keyword, string, mark}
use Rattle.step_structures.specs.Trees.{Tree, leaf, typed, group, Trees, none, one, Record, Form, internal, external, ExchangeRow, Section, Item, this, says, named, finish, items_of_tree, items_of_trees, items_of_more, items_of_record, items_of_partial_records, items_of_form, items_of_row, items_of_rows, items_of_heading, items_of_section, items_of_sections, items_of_end, section}
use Rattle.step_literals.specs.Words.{upper}
use Rattle.step_structures.specs.Normal.{plain_word, plain_name, plain_tree, plain_trees, plain_more, plain_record, plain_partial_records, plain_form, plain_row, plain_rows, plain_heading, plain_section, plain_sections}
use Rattle.step_structures.proofs.Written.{Written, StartsClosed, follows_word}

closed : (c : ℕ) (s : List ℕ) → is_closer c ≡ true → StartsClosed (c ∷ s)
closed c s h = (c, s, h, refl)

-- the bytes are what the items ask for, as a type that stays closed
Text : List Item → List ℕ → Type 0
Text is t = Written is t

-- a mark without a line end before it
mark_written : (m : Mark) (is : List Item) (t : List ℕ) → Text is t → Text (this (mark m) ∷ is) (mark_byte m ∷ t)
unfolding Text
mark_written m is t h = ([], t, inl refl, h, (tt, refl))

-- a word with a closer behind it
word_written : (w : Word) (is : List Item) (t : List ℕ) → StartsClosed t → Text is t
    → Text (this w ∷ is) (plain_word w ++ t)
unfolding Text
word_written w is t c h = ([], t, inl refl, h, (follows_word w t c, refl))

same : (xs ys : List Item) (t u : List ℕ) → xs ≡ ys → t ≡ u → Text ys u → Text xs t
same xs ys t u e q h = subst (λ (p : List Item × List ℕ). Text p.0 p.1) (λ i. (sym e i, sym q i)) h

more_closed : (xs : Trees) (t : List ℕ) → StartsClosed t → StartsClosed (plain_more xs ++ t)
more_closed none t c = c
more_closed (one x xs) t c = closed 44 _ refl

abbrev ListText : Trees → Type 0
ListText xs = (is : List Item) (t : List ℕ) → StartsClosed t → Text is t → Text (items_of_trees xs ++ is)
    (plain_trees xs ++ t)

-- parameters with their parentheses
list_from : (xs : Trees) → ListText xs → (is : List Item) (t : List ℕ) → Text is t
    → Text (this (mark Open) ∷ ((items_of_trees xs ++ this (mark Close) ∷ []) ++ is))
    (40 ∷ ((plain_trees xs ++ 41 ∷ []) ++ t))
list_from xs f is t h =
    same _ (this (mark Open) ∷ (items_of_trees xs ++ this (mark Close) ∷ is)) _ (40 ∷ (plain_trees xs ++ 41 ∷ t))
    (simp append_assoc) (simp append_assoc)
    (mark_written Open _ (plain_trees xs ++ 41 ∷ t) (f (this (mark Close) ∷ is) (41 ∷ t) (closed 41 t refl)
    (mark_written Close is t h)))

mutual
  tree_written : (x : Tree) (is : List Item) (t : List ℕ) → StartsClosed t → Text is t → Text (items_of_tree x ++ is)
      (plain_tree x ++ t)
  tree_written (leaf w) is t c h = word_written w is t c h
  tree_written (typed text x) is t c h =
      same (this (keyword text) ∷ this (mark Open) ∷ ((items_of_tree x ++ this (mark Close) ∷ []) ++ is))
      (this (keyword text) ∷ this (mark Open) ∷ (items_of_tree x ++ this (mark Close) ∷ is))
      (plain_tree (typed text x) ++ t) (upper text ++ 40 ∷ (plain_tree x ++ 41 ∷ t)) (simp append_assoc)
      (simp append_assoc)
      (word_written (keyword text) _ (40 ∷ (plain_tree x ++ 41 ∷ t)) (closed 40 _ refl)
      (mark_written Open _ (plain_tree x ++ 41 ∷ t) (tree_written x (this (mark Close) ∷ is) (41 ∷ t)
      (closed 41 t refl) (mark_written Close is t h))))
  tree_written (group xs) is t c h = list_from xs (λ js u d g. trees_written xs js u d g) is t h

  trees_written : (xs : Trees) (is : List Item) (t : List ℕ) → StartsClosed t → Text is t
      → Text (items_of_trees xs ++ is) (plain_trees xs ++ t)
  trees_written none is t c h = h
  trees_written (one x xs) is t c h =
      same _ (items_of_tree x ++ (items_of_more xs ++ is)) _ (plain_tree x ++ (plain_more xs ++ t)) (simp append_assoc)
      (simp append_assoc)
      (tree_written x _ _ (more_closed xs t c) (more_written xs is t c h))

  more_written : (xs : Trees) (is : List Item) (t : List ℕ) → StartsClosed t → Text is t → Text (items_of_more xs ++ is)
      (plain_more xs ++ t)
  more_written none is t c h = h
  more_written (one x xs) is t c h =
      same _ (this (mark Comma) ∷ (items_of_tree x ++ (items_of_more xs ++ is))) _
      (44 ∷ (plain_tree x ++ (plain_more xs ++ t))) (simp append_assoc) (simp append_assoc)
      (mark_written Comma _ _ (tree_written x _ _ (more_closed xs t c) (more_written xs is t c h)))

record_written : (p : Record) (is : List Item) (t : List ℕ) → Text is t → Text (items_of_record p ++ is) (plain_record p
    ++ t)
record_written p is t h =
    same _ (items_of_record p ++ is) _ (upper p.keyword ++ 40 ∷ ((plain_trees p.values ++ 41 ∷ []) ++ t)) refl
    (simp append_assoc)
    (word_written (keyword p.keyword) _ _ (closed 40 _ refl) (list_from p.values (trees_written p.values) is t h))

partial_records_written : (ps : List Record) (is : List Item) (t : List ℕ) → Text is t
    → Text (items_of_partial_records ps ++ is)
    (plain_partial_records ps ++ t)
partial_records_written [] is t h = h
partial_records_written (p ∷ ps) is t h =
    same _ (items_of_record p ++ (items_of_partial_records ps ++ is)) _ (plain_record p
    ++ (plain_partial_records ps ++ t)) (simp append_assoc) (simp append_assoc)
    (record_written p _ _ (partial_records_written ps is t h))

form_written : (f : Form) (is : List Item) (t : List ℕ) → Text is t → Text (items_of_form f ++ is) (plain_form f ++ t)
form_written (internal p) is t h = record_written p is t h
form_written (external ps) is t h =
    same _ (this (mark Open) ∷ (items_of_partial_records ps ++ this (mark Close) ∷ is)) _
    (40 ∷ (plain_partial_records ps ++ 41 ∷ t)) (simp append_assoc) (simp append_assoc)
    (mark_written Open _ _ (partial_records_written ps _ _ (mark_written Close is t h)))

name_written : (n : ℕ) (is : List Item) (t : List ℕ) → StartsClosed t → Text is t
    → Text (named n ∷ is) (10 ∷ (plain_name n ++ t))
unfolding Text
name_written n is t c h = (10 ∷ [], t, inr refl, h, (c, refl))

row_written : (r : ExchangeRow) (is : List Item) (t : List ℕ) → Text is (10 ∷ t) → Text (items_of_row r ++ is)
    (10 ∷ (plain_row r ++ t))
row_written r is t h =
    same _ (named r.name ∷ this (mark Equals) ∷ (items_of_form r.form ++ this (mark Semicolon) ∷ is)) _
    (10 ∷ (plain_name r.name ++ 61 ∷ (plain_form r.form ++ 59 ∷ 10 ∷ t))) (simp append_assoc) (simp append_assoc)
    (name_written r.name _ _ (closed 61 _ refl)
    (mark_written Equals _ _ (form_written r.form _ _ (mark_written Semicolon is (10 ∷ t) h))))

rows_written : (rs : List ExchangeRow) (is : List Item) (t : List ℕ) → Text is (10 ∷ t) → Text (items_of_rows rs ++ is)
    (10 ∷ (plain_rows rs ++ t))
rows_written [] is t h = h
rows_written (r ∷ rs) is t h = same _ (items_of_row r ++ (items_of_rows rs ++ is)) _
    (10 ∷ (plain_row r ++ (plain_rows rs ++ t))) (simp append_assoc) (simp append_assoc)
    (row_written r _ _ (rows_written rs is t h))

-- a line with a keyword and a semicolon
section_written : (word : List ℕ) (is : List Item) (t : List ℕ) → Text is t → Text (section word ++ is)
    (10 ∷ (upper word ++ 59 ∷ t))
unfolding Text
section_written word is t h = (10 ∷ [], 59 ∷ t, inr refl, mark_written Semicolon is t h, (closed 59 t refl, refl))

end_written : Text items_of_end (10 ∷ (codes "END-ISO-10303-21;\n"))
unfolding Text
end_written = (
  10 ∷ [],
  codes ";\n",
  inr refl,
  mark_written Semicolon (finish ∷ []) (10 ∷ []) (
    10 ∷ [],
    [],
    inr refl,
    refl,
    (refl, refl),
  ),
  (closed 59 _ refl, refl),
)

heading_closed : (h : Option (List ℕ × List ℕ)) (t : List ℕ) → StartsClosed t → StartsClosed (plain_heading h ++ t)
heading_closed None t c = c
heading_closed (Some h) t c = closed 40 _ refl

heading_written : (h : Option (List ℕ × List ℕ)) (is : List Item) (t : List ℕ) → Text is t
    → Text (items_of_heading h ++ is) (plain_heading h ++ t)
heading_written None is t g = g
heading_written (Some h) is t g =
    same _ (this (mark Open) ∷ this (string h.0) ∷ this (mark Comma) ∷ this (mark Open) ∷ this (string h.1)
    ∷ this (mark Close) ∷ this (mark Close) ∷ is) _ (40 ∷ (h.0 ++ 44 ∷ 40 ∷ (h.1 ++ 41 ∷ 41 ∷ t))) refl
    (simp append_assoc)
    (mark_written Open _ _ (word_written (string h.0) _ _ (closed 44 _ refl) (mark_written Comma _ _
    (mark_written Open _ _ (word_written (string h.1) _ _ (closed 41 _ refl) (mark_written Close _ _
    (mark_written Close is t g)))))))

-- the word of a section, on a line of its own
data_written : (is : List Item) (t : List ℕ) → StartsClosed t → Text is t
    → Text (says (codes "DATA") ∷ is) (10 ∷ (codes "DATA" ++ t))
unfolding Text
data_written is t c h = (10 ∷ [], t, inr refl, h, (c, refl))

one_section_written : (x : Section) (is : List Item) (t : List ℕ) → Text is (10 ∷ t) → Text (items_of_section x ++ is)
    (10 ∷ (plain_section x ++ t))
one_section_written x is t h =
    let rows = items_of_rows x.rows ++ (section (codes "ENDSEC") ++ is) in
    let lines = 10 ∷ (plain_rows x.rows ++ (codes "ENDSEC" ++ 59 ∷ 10 ∷ t)) in
    same _ (says (codes "DATA") ∷ (items_of_heading x.heading ++ this (mark Semicolon) ∷ rows)) _
    (10 ∷ (codes "DATA" ++ (plain_heading x.heading ++ 59 ∷ lines))) (simp append_assoc) (simp append_assoc)
    (data_written _ _ (heading_closed x.heading (59 ∷ lines) (closed 59 lines refl))
    (heading_written x.heading _ (59 ∷ lines) (mark_written Semicolon rows lines
    (rows_written x.rows _ _ (section_written (codes "ENDSEC") is (10 ∷ t) h)))))

sections_text : (xs : List Section) (is : List Item) (t : List ℕ) → Text is (10 ∷ t) → Text (items_of_sections xs ++ is)
    (10 ∷ (plain_sections xs ++ t))
sections_text [] is t h = h
sections_text (x ∷ xs) is t h = same _ (items_of_section x ++ (items_of_sections xs ++ is)) _
    (10 ∷ (plain_section x ++ (plain_sections xs ++ t))) (simp append_assoc) (simp append_assoc)
    (one_section_written x _ _ (sections_text xs is t h))

-- the data sections and the end
pub sections_written : (xs : List Section) → Written (items_of_sections xs ++ items_of_end) (10 ∷ (plain_sections xs
    ++ codes "END-ISO-10303-21;\n"))
unfolding Text
sections_written xs = sections_text xs items_of_end (codes "END-ISO-10303-21;\n") end_written
