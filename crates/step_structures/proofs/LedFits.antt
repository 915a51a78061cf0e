-- A merged structure is within the limits where the structure is.
use Rattle.std.proofs.Common.{◌≡◌, ℕ, ◌+◌, ◌<◌, ◌≤◌, Bool, true, false, cond, List, [], ◌∷◌, ◌++◌, map, length, refl, sym, ap, ◌∙◌, subst, arith, length-append}
use Rattle.std.specs.Prelude.{◌==◌, ◌||◌, filter}
use Rattle.std.proofs.lemmas.List.{length-map}
use Rattle.step_structures.specs.Words.{Word, name}
use Rattle.step_structures.specs.Trees.{Tree, leaf, typed, group, Trees, none, one, Record, Form, internal, external, ExchangeRow, Section, rows_of}
use Rattle.step_structures.specs.Fits.{the_rules, IsLeaf, FitsTree, FitsTrees, FitsRecord, FitsPartialRecords, FitsForm, FitsRows, FitsSections, has_name}
use Rattle.step_structures.specs.MergedTexts.{led_word, led_tree, led_trees, led_record, led_form, led_row, merged_rows, merged_sections}

-- a name that stands among fewer stands among more
abbrev AreAmong : List ℕ → List ℕ → Type 0
AreAmong fewer more = (n : ℕ) → has_name n more ≡ false → has_name n fewer ≡ false

has_behind : (n m : ℕ) (xs : List ℕ) → has_name n (xs ++ m ∷ []) ≡ (has_name n xs || (n == m))
has_behind n m [] = go (n == m)
  where
    go : (b : Bool) → (b || false) ≡ (false || b)
    go true = refl
    go false = refl
has_behind n m (x ∷ xs) = go (n == x) (has_behind n m xs)
  where
    go : (b : Bool) → has_name n (xs ++ m ∷ []) ≡ (has_name n xs || (n == m))
        → (b || has_name n (xs ++ m ∷ [])) ≡ ((b || has_name n xs) || (n == m))
    go true e = refl
    go false e = e

or_false : (a b : Bool) → (a || b) ≡ false → (a ≡ false) × (b ≡ false)
or_false false false e = (refl, refl)
or_false false true e = absurd (cc)
or_false true b e = absurd (cc)

one_more : (fewer more : List ℕ) (m : ℕ) → AreAmong fewer more → AreAmong (fewer ++ m ∷ []) (more ++ m ∷ [])
one_more fewer more m f n e =
    let parts = or_false (has_name n more) (n == m) (sym (has_behind n m more) ∙ e) in
    has_behind n m fewer ∙ (λ i. f n parts.0 i || parts.1 i)

left_out : (fewer more : List ℕ) (m : ℕ) → AreAmong fewer more → AreAmong fewer (more ++ m ∷ [])
left_out fewer more m f n e = f n (or_false (has_name n more) (n == m) (sym (has_behind n m more) ∙ e)).0

module _ (h : ℕ → ℕ) where
  leaf_fits : (w : Word) → IsLeaf w → IsLeaf (led_word h w)
  leaf_fits (name y text) f = tt
  leaf_fits w f = f

  mutual
    tree_fits : (n : ℕ) (x : Tree) → FitsTree the_rules n x → FitsTree the_rules n (led_tree h x)
    tree_fits n (leaf w) f = leaf_fits w f
    tree_fits n (typed text x) f = (f.0, tree_fits (n + 1) x f.1)
    tree_fits n (group xs) f = (f.0, trees_fit (n + 1) xs f.1)

    trees_fit : (n : ℕ) (xs : Trees) → FitsTrees the_rules n xs → FitsTrees the_rules n (led_trees h xs)
    trees_fit n none f = tt
    trees_fit n (one x xs) f = (tree_fits n x f.0, trees_fit n xs f.1)

  record_fits : (n : ℕ) (p : Record) → FitsRecord the_rules n p → FitsRecord the_rules n (led_record h p)
  record_fits n p f = (f.0, trees_fit (n + 1) p.values f.1)

  partials_fit : (before : List (List ℕ)) (ps : List Record) → FitsPartialRecords the_rules before ps
      → FitsPartialRecords the_rules before (map (led_record h) ps)
  partials_fit before [] f = tt
  partials_fit before (p ∷ ps) f = (f.0, record_fits 1 p f.1, partials_fit (before ++ p.keyword ∷ []) ps f.2)

  form_fits : (g : Form) → FitsForm the_rules g → FitsForm the_rules (led_form h g)
  form_fits (internal p) f = record_fits 0 p f
  form_fits (external ps) f = (f.0, rw length-map f.1, partials_fit [] ps f.2)

  rows_fit : (fewer more : List ℕ) (rs : List ExchangeRow) → AreAmong fewer more → length fewer ≤ length more
      → FitsRows the_rules more rs → FitsRows the_rules fewer (merged_rows h rs)
  rows_fit fewer more [] f l k = tt
  rows_fit fewer more (r ∷ rs) f l k =
      go (h r.name == r.name)
      (rows_fit (fewer ++ r.name ∷ []) (more ++ r.name ∷ []) rs (one_more fewer more r.name f)
      (omega (arith, l, length-append fewer (r.name ∷ []), length-append more (r.name ∷ []))) k.3)
      (rows_fit fewer (more ++ r.name ∷ []) rs (left_out fewer more r.name f)
      (omega (arith, l, length-append more (r.name ∷ []))) k.3)
    where
      go : (b : Bool) → FitsRows the_rules (fewer ++ r.name ∷ []) (merged_rows h rs)
          → FitsRows the_rules fewer (merged_rows h rs)
          → FitsRows the_rules fewer (map (led_row h)
          (cond b (r ∷ filter (λ (q : ExchangeRow). h q.name == q.name) rs) (filter (λ (q : ExchangeRow). h q.name == q.name) rs)))
      go true with without = (f r.name k.0, omega (arith, l, k.1), form_fits r.form k.2, with)
      go false with without = without

  merged_append : (xs ys : List ExchangeRow) → merged_rows h (xs ++ ys) ≡ merged_rows h xs ++ merged_rows h ys
  merged_append [] ys = refl
  merged_append (x ∷ xs) ys = go (h x.name == x.name) (merged_append xs ys)
    where
      go : (b : Bool) → merged_rows h (xs ++ ys) ≡ merged_rows h xs ++ merged_rows h ys
          → map (led_row h) (cond b (x ∷ filter (λ (q : ExchangeRow). h q.name == q.name) (xs ++ ys))
          (filter (λ (q : ExchangeRow). h q.name == q.name) (xs ++ ys)))
          ≡ map (led_row h) (cond b (x ∷ filter (λ (q : ExchangeRow). h q.name == q.name) xs)
          (filter (λ (q : ExchangeRow). h q.name == q.name) xs)) ++ merged_rows h ys
      go true e = ap (λ l. led_row h x ∷ l) e
      go false e = e

  pub rows_merged : (xs : List Section) → rows_of (merged_sections h xs) ≡ merged_rows h (rows_of xs)
  rows_merged [] = refl
  rows_merged (x ∷ xs) =
      ap (λ l. merged_rows h x.rows ++ l) (rows_merged xs) ∙ sym (merged_append x.rows (rows_of xs))

  pub sections_fit : (xs : List Section) → FitsSections the_rules xs → FitsSections the_rules (merged_sections h xs)
  sections_fit xs f = (
    rw length-map f.0,
    rw length-map f.1,
    subst (FitsRows the_rules []) (sym (rows_merged xs))
        (rows_fit [] [] (rows_of xs) (λ n e. e) (omega arith) f.2),
  )
