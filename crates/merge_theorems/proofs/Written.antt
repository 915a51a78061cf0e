-- The records of a merged file are spelt as their entities ask, where those of the file are.
use Rattle.std.specs.Prelude.{◌≡◌, ℕ, suc, ◌==◌, ◌&&◌, not, Bool, true, false, cond, List, [], ◌∷◌, ◌++◌, length, map, filter, Some}
use Rattle.std.specs.List.{list_all}
use Rattle.std.specs.List as lists
use Rattle.std.proofs.Common.{refl, sym, ap, subst, ◌∙◌}
use Rattle.step_lexer.specs.declared.token.Mark.TheVariants.{Dollar, Asterisk}
use Rattle.step_structures.specs.Words as words
use Rattle.step_structures.specs.Words.{Word}
use Rattle.step_structures.specs.Trees as trees
use Rattle.step_structures.specs.Trees.{Tree, Trees, Record, Form, internal, external, ExchangeRow, Section, File, rows_of}
use Rattle.step_structures.specs.Normal.{normal_word, normal_record, normal_rows, normal_sections, normal_file}
use Rattle.step_structures.specs.MergedTexts.{led_word, led_record, led_row, merged_rows, merged_sections, merged_file}
use Rattle.express_syntax.specs.Schemas.{Schema, DataType}
use Rattle.express_syntax.specs.Profile.{Every}
use Rattle.schema_semantics.specs.Names.{Name}
use Rattle.schema_semantics.specs.Attributes.{Place}
use Rattle.conformance.specs.Bases.{Base, Domain, base}
use Rattle.conformance.specs.ParameterFits.{count, is_entity, is_star_or_dollar, inner}
use Rattle.conformance.specs.Entities.{Entities, named_entity, records, parameters, own_places_of, types_of, places_of, how_many, has_count, unknown_entities, wrong_counts, is_derived, data_types}
use Rattle.conformance.specs.Findings.{names_one, file_names, schema_text, heading_names, is_of_schema}
use Rattle.conformance.specs.ValueSpellings.{WordSpelt, IsSpelt, EachSpelt}
use Rattle.conformance.specs.RecordSpellings.{GivenSpelt, AreSpelt, IsRowSpelt}
use Rattle.merge_theorems.proofs.Values.{upper_upper, tree, trees_of, record_of, form_of, row_of, given_led, types_led, places_led}

module _ (h : ℕ → ℕ) where
  word_spelt : (b : Base) (w : Word) → WordSpelt w b → WordSpelt (normal_word (led_word h w)) b
  word_spelt b (words.name y t) f = tt
  word_spelt b (words.element t) f = tt
  word_spelt b (words.keyword t) f = absurd f
  word_spelt b (words.user_defined t) f = absurd f
  word_spelt b w f = f

  star_led : (x : Tree) → is_star_or_dollar x ≡ true → is_star_or_dollar (tree h x) ≡ true
  star_led (trees.leaf (words.mark Dollar)) f = refl
  star_led (trees.leaf (words.mark Asterisk)) f = refl
  star_led (trees.leaf w) f = absurd (cc)
  star_led (trees.typed n x) f = absurd (cc)
  star_led (trees.group xs) f = absurd (cc)

  count_led : (xs : Trees) → count (trees_of h xs) ≡ count xs
  count_led trees.none = refl
  count_led (trees.one x xs) = ap suc (count_led xs)

  -- as many records pass a test that tells records by their keywords and numbers of parameters
  how_many_led : (test : Record → Bool) → ((p : Record) → test (record_of h p) ≡ test p) → (ps : List Record)
      → how_many test (map normal_record (map (led_record h) ps)) ≡ how_many test ps
  how_many_led test same [] = refl
  how_many_led test same (p ∷ ps) = go (test (record_of h p)) (test p) (same p) (how_many_led test same ps)
    where
      go : (a b : Bool) → a ≡ b
          → how_many test (map normal_record (map (led_record h) ps)) ≡ how_many test ps
          → length (cond a (record_of h p ∷ lists.filter test (map normal_record (map (led_record h) ps)))
          (lists.filter test (map normal_record (map (led_record h) ps))))
          ≡ length (cond b (p ∷ lists.filter test ps) (lists.filter test ps))
      go true true e rest = ap suc rest
      go false false e rest = rest
      go true false e rest = absurd (cc)
      go false true e rest = absurd (cc)

  module _ (s : Schema) (d : Domain) where
    mutual
      spelt_led : (b : Base) (x : Tree) → IsSpelt s d b x → IsSpelt s d b (tree h x)
      spelt_led b (trees.leaf w) f = word_spelt b w f
      spelt_led b (trees.typed n x) f =
          λ c i. spelt_led c x (f c (subst (λ k. inner s d b k ≡ Some c) (upper_upper n) i))
      spelt_led b (trees.group xs) f = λ a i. each_led (base d a.element) xs (f a i)

      each_led : (b : Base) (xs : Trees) → EachSpelt s d b xs → EachSpelt s d b (trees_of h xs)
      each_led b trees.none f = tt
      each_led b (trees.one x xs) f = (spelt_led b x f.0, each_led b xs f.1)

    all_led : (ks : List DataType) (x : Tree) → Every (λ (k : DataType). IsSpelt s d (base d k) x) ks
        → Every (λ (k : DataType). IsSpelt s d (base d k) (tree h x)) ks
    all_led [] x f = tt
    all_led (k ∷ ks) x f = (spelt_led (base d k) x f.0, all_led ks x f.1)

    one_led : (derived : Bool) (ks : List DataType) (x : Tree) → GivenSpelt s d derived ks x
        → GivenSpelt s d derived ks (tree h x)
    one_led true ks x f = star_led x f
    one_led false ks x f = all_led ks x f

    module _ (en : Entities) where
      are_led : (types : List Name) (ps : List Place) (xs : Trees) → AreSpelt s d en types ps xs
          → AreSpelt s d en types ps (trees_of h xs)
      are_led types [] xs f = tt
      are_led types (p ∷ ps) trees.none f = tt
      are_led types (p ∷ ps) (trees.one x xs) f =
          (one_led (is_derived s en types p) (data_types s en types p) x f.0, are_led types ps xs f.1)

      unknown_led : (f : Form) → unknown_entities s en (form_of h f) ≡ unknown_entities s en f
      unknown_led (internal p) =
          how_many_led (λ r. not (is_entity s (named_entity r))) (λ q. ap (λ n. not (is_entity s n)) (upper_upper q.keyword))
          (p ∷ [])
      unknown_led (external ps) =
          how_many_led (λ r. not (is_entity s (named_entity r))) (λ q. ap (λ n. not (is_entity s n)) (upper_upper q.keyword))
          ps

      counts_led : (f : Form) → wrong_counts s en (form_of h f) ≡ wrong_counts s en f
      counts_led (internal p) =
          λ i. cond (count_led p.values i == length (en.places (upper_upper p.keyword i))) 0 1
      counts_led (external ps) =
          how_many_led (λ r. not (has_count s en (own_places_of s (named_entity r)) r))
          (λ q i. not (count_led q.values i == length (own_places_of s (upper_upper q.keyword i)))) ps

      row_spelt : (r : ExchangeRow) → IsRowSpelt s d en r → IsRowSpelt s d en (row_of h r)
      row_spelt r f = record {
        keywords = unknown_led r.form ∙ f.keywords;
        counts = counts_led r.form ∙ f.counts;
        values = subst (λ xs. AreSpelt s d en (types_of s en (form_of h r.form)) (places_of s en (form_of h r.form)) xs)
            (sym (given_led h r.form))
            (subst (λ ts. AreSpelt s d en ts (places_of s en (form_of h r.form)) (trees_of h (parameters (records r.form))))
            (sym (types_led h s d en r.form))
            (subst (λ ps. AreSpelt s d en (types_of s en r.form) ps (trees_of h (parameters (records r.form))))
            (sym (places_led h s d en r.form))
            (are_led (types_of s en r.form) (places_of s en r.form) (parameters (records r.form)) f.values)));
      }

      front : (rs qs : List ExchangeRow) → Every (IsRowSpelt s d en) (rs ++ qs) → Every (IsRowSpelt s d en) rs
      front [] qs f = tt
      front (r ∷ rs) qs f = (f.0, front rs qs f.1)

      back : (rs qs : List ExchangeRow) → Every (IsRowSpelt s d en) (rs ++ qs) → Every (IsRowSpelt s d en) qs
      back [] qs f = f
      back (r ∷ rs) qs f = back rs qs f.1

      rows_spelt : (rs more : List ExchangeRow) → Every (IsRowSpelt s d en) rs → Every (IsRowSpelt s d en) more
          → Every (IsRowSpelt s d en) (normal_rows (merged_rows h rs) ++ more)
      rows_spelt [] more f g = g
      rows_spelt (r ∷ rs) more f g = go (h r.name == r.name) (row_spelt r f.0) (rows_spelt rs more f.1 g)
        where
          go : (b : Bool) → IsRowSpelt s d en (row_of h r)
              → Every (IsRowSpelt s d en) (normal_rows (merged_rows h rs) ++ more)
              → Every (IsRowSpelt s d en) (normal_rows (map (led_row h)
              (cond b (r ∷ filter (λ (q : ExchangeRow). h q.name == q.name) rs)
              (filter (λ (q : ExchangeRow). h q.name == q.name) rs))) ++ more)
          go true first rest = (first, rest)
          go false first rest = rest

      pub all_spelt : (xs : List Section) → Every (IsRowSpelt s d en) (rows_of xs)
          → Every (IsRowSpelt s d en) (rows_of (normal_sections (merged_sections h xs)))
      all_spelt [] f = tt
      all_spelt (x ∷ xs) f =
          rows_spelt x.rows (rows_of (normal_sections (merged_sections h xs))) (front x.rows (rows_of xs) f)
          (all_spelt xs (back x.rows (rows_of xs) f))

  headings : (names : List Name) (xs : List Section)
      → list_all (λ (x : Section). heading_names names x.heading) (normal_sections (merged_sections h xs))
      ≡ list_all (λ (x : Section). heading_names names x.heading) xs
  headings names [] = refl
  headings names (x ∷ xs) = ap (λ b. heading_names names x.heading && b) (headings names xs)

  pub schema_named : (s : Schema) (others : List Name) (f : File)
      → is_of_schema s others (normal_file (merged_file h f)) ≡ is_of_schema s others f
  schema_named s others f =
      ap (λ b. names_one (file_names s others) (schema_text f.header) && b) (headings (file_names s others) f.sections)
