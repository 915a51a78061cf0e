-- The prints of a text whose references are led.
use Rattle.std.proofs.Common.{◌≡◌, ℕ, zero, suc, ◌+◌, ◌<◌, ◌≤◌, Bool, true, false, cond, List, [], ◌∷◌, ◌++◌, Some, None, map, take, drop, slice_get, refl, sym, ap, ◌∙◌, append_assoc, append-nil, eq-eqb}
use Rattle.std.specs.Prelude.{◌==◌, ◌-◌, ◌&&◌, filter}
use Rattle.std.proofs.lemmas.Bool.{false≢true}
use Rattle.step_structures.specs.Words.{name, number, string, binary}
use Rattle.step_structures.specs.Trees.{Tree, leaf, group, Trees, none, one, ExchangeRow, Section}
use Rattle.step_structures.specs.Normal.{plain_tree, plain_trees, plain_more, plain_record, plain_partial_records, plain_rows, plain_row, plain_section, plain_sections}
use Rattle.step_records.specs.Cells.{all_of}
use Rattle.step_records.specs.Params.{is_literal_tree, are_literals}
use Rattle.step_exchange.specs.declared.section.Section as code
use Rattle.step_exchange.specs.Views.{record_in, form_in, rows_with}
use Rattle.step_exchange.specs.Sections.{heading_of, sections_of}
use Rattle.step_exchange.proofs.Cuts.{rows_taken, rows_dropped}
use Rattle.step_structures.specs.MergedTexts.{led_tree, led_trees, led_record, led_row, merged_rows, merged_section, merged_sections}

both : (a b : Bool) → (a && b) ≡ true → (a ≡ true) × (b ≡ true)
both true b e = (refl, e)
both false b e = absurd (false≢true e)

module _ (h : ℕ → ℕ) where
  -- there is no reference in literals
  mutual
    stays : (x : Tree) → is_literal_tree x ≡ true → led_tree h x ≡ x
    stays (leaf (number text)) e = refl
    stays (leaf (string text)) e = refl
    stays (leaf (binary text)) e = refl
    stays (group xs) e = ap group (stay xs e)
    stays _ e = absurd (false≢true e)

    stay : (xs : Trees) → are_literals xs ≡ true → led_trees h xs ≡ xs
    stay none e = refl
    stay (one x xs) e =
        let p = both (is_literal_tree x) (are_literals xs) e in
        λ i. one (stays x p.0 i) (stay xs p.1 i)

  pub literals_led : (xs : List Tree) (s : List ℕ) → plain_trees (all_of xs) ≡ s → are_literals (all_of xs) ≡ true
      → s ≡ plain_trees (led_trees h (all_of xs))
  literals_led xs s e f = sym e ∙ ap plain_trees (sym (stay (all_of xs) f))

  pub led_more_push : (xs : List Tree) (y : Tree) → plain_more (led_trees h (all_of (xs ++ y ∷ [])))
      ≡ plain_more (led_trees h (all_of xs)) ++ (44 ∷ plain_tree (led_tree h y))
  led_more_push [] y = append-nil (44 ∷ plain_tree (led_tree h y))
  led_more_push (x ∷ xs) y = ap (λ l. (44 ∷ plain_tree (led_tree h x)) ++ l) (led_more_push xs y)
      ∙ sym (append_assoc (44 ∷ plain_tree (led_tree h x)) (plain_more (led_trees h (all_of xs)))
      (44 ∷ plain_tree (led_tree h y)))

  pub led_first : (xs further : List Tree) (x : Tree) → slice_get xs 0 ≡ Some x → further ≡ drop 1 xs
      → plain_tree (led_tree h x) ++ plain_more (led_trees h (all_of further)) ≡ plain_trees (led_trees h (all_of xs))
  led_first [] further x e f = absurd (cc)
  led_first (y ∷ ys) further x e f = let same : y ≡ x = cc in
      λ i. plain_tree (led_tree h (sym same i)) ++ plain_more (led_trees h (all_of (f i)))

  pub no_led : (xs : List Tree) → slice_get xs 0 ≡ None → [] ≡ plain_trees (led_trees h (all_of xs))
  no_led [] e = refl
  no_led (x ∷ xs) e = absurd (cc)

  pub led_partials_push : (xs : List Tree) (y : Tree)
      → plain_partial_records (map (led_record h) (map record_in (xs ++ y ∷ [])))
      ≡ plain_partial_records (map (led_record h) (map record_in xs)) ++ plain_record (led_record h (record_in y))
  led_partials_push [] y = append-nil (plain_record (led_record h (record_in y)))
  led_partials_push (x ∷ xs) y = ap (λ l. plain_record (led_record h (record_in x)) ++ l) (led_partials_push xs y)
      ∙ sym (append_assoc (plain_record (led_record h (record_in x)))
      (plain_partial_records (map (led_record h) (map record_in xs))) (plain_record (led_record h (record_in y))))

  -- the line of one instance
  abbrev pub one_line : ExchangeRow → List ℕ
  one_line r = plain_rows (merged_rows h (r ∷ []))

  first_line : (r : ExchangeRow) (rs : List ExchangeRow) → plain_rows (merged_rows h (r ∷ rs))
      ≡ one_line r ++ plain_rows (merged_rows h rs)
  first_line r rs = go (h r.name == r.name)
    where
      go : (b : Bool) → plain_rows (map (led_row h) (cond b (r ∷ filter (λ (q : ExchangeRow). h q.name == q.name) rs)
          (filter (λ (q : ExchangeRow). h q.name == q.name) rs)))
          ≡ plain_rows (map (led_row h) (cond b (r ∷ []) [])) ++ plain_rows (merged_rows h rs)
      go true = ap (λ l. l ++ plain_rows (merged_rows h rs)) (sym (append-nil (plain_row (led_row h r))))
      go false = refl

  pub kept_line : (r : ExchangeRow) → h r.name ≡ r.name → plain_row (led_row h r) ≡ one_line r
  kept_line r e =
      sym (ap (λ (b : Bool). plain_rows (map (led_row h) (cond b (r ∷ []) []))) (eq-eqb (h r.name) r.name e)
      ∙ append-nil (plain_row (led_row h r)))

  -- instances with so many names
  pub led_rows_push : (ns : List ℕ) (xs : List Tree) (i n : ℕ) (x : Tree) → slice_get ns i ≡ Some n
      → slice_get xs i ≡ Some x
      → plain_rows (merged_rows h (rows_with (take (suc i) ns) (take (suc i) xs)))
      ≡ plain_rows (merged_rows h (rows_with (take i ns) (take i xs)))
      ++ one_line (record { name = n; form = form_in x })
  led_rows_push [] xs i n x e f = absurd (cc)
  led_rows_push (m ∷ ns) [] i n x e f = absurd (cc)
  led_rows_push (m ∷ ns) (y ∷ xs) zero n x e f =
      let k : m ≡ n = cc in
      let l : y ≡ x = cc in
      λ j. one_line (record { name = k j; form = form_in (l j) })
  led_rows_push (m ∷ ns) (y ∷ xs) (suc i) n x e f =
      let r : ExchangeRow = record { name = m; form = form_in y } in
      let q : ExchangeRow = record { name = n; form = form_in x } in
      first_line r (rows_with (take (suc i) ns) (take (suc i) xs))
      ∙ ap (λ l. one_line r ++ l) (led_rows_push ns xs i n x e f)
      ∙ sym (append_assoc (one_line r) (plain_rows (merged_rows h (rows_with (take i ns) (take i xs)))) (one_line q))
      ∙ ap (λ l. l ++ one_line q) (sym (first_line r (rows_with (take i ns) (take i xs))))

  -- the first section is printed, and then the others
  pub led_sections_printed : (from : ℕ) (s : code.Section) (ss : List code.Section) (ns own_ns ns_behind : List ℕ)
      (xs own behind : List Tree) (n : ℕ) → n ≡ s.past - from → own_ns ≡ take n ns → ns_behind ≡ drop n ns
      → own ≡ take n xs → behind ≡ drop n xs
      → plain_sections (merged_sections h (sections_of from (s ∷ ss) (rows_with ns xs)))
      ≡ plain_section (merged_section h (record { heading = heading_of s.heading; rows = rows_with own_ns own }))
      ++ plain_sections (merged_sections h (sections_of s.past ss (rows_with ns_behind behind)))
  led_sections_printed from s ss ns own_ns ns_behind xs own behind n e f g k l =
      let front : take (s.past - from) (rows_with ns xs) ≡ rows_with own_ns own =
      ap (λ i. take i (rows_with ns xs)) (sym e) ∙ rows_taken n ns xs ∙ (λ i. rows_with (sym f i) (sym k i)) in
      let back : drop (s.past - from) (rows_with ns xs) ≡ rows_with ns_behind behind =
      ap (λ i. drop i (rows_with ns xs)) (sym e) ∙ rows_dropped n ns xs ∙ (λ i. rows_with (sym g i) (sym l i)) in
      λ i. plain_section (merged_section h (record { heading = heading_of s.heading; rows = front i }))
      ++ plain_sections (merged_sections h (sections_of s.past ss (back i)))
