-- The tables, from what the functions that make them ensure.
use Rattle.std.specs.Prelude.{◌≡◌, ℕ, ◌+◌, ◌<◌, Bool, true, false, List, Option, None, Some, slice_get, length}
use Rattle.std.specs.List.Sorted.{IsNonDecreasing}
use Rattle.std.proofs.Common.{refl, ap, sym, subst, ◌∙◌, arith}
use Rattle.std.proofs.lemmas.Option.{slice_get-get_or}
use Rattle.graphs.specs.Graphs.{Graph, has, next, graph_of}
use Rattle.graphs.specs.Orders.{IsTopologicalOrder}
use Rattle.express_syntax.specs.Schemas.{Schema}
use Rattle.schema_semantics.specs.Names.{Name}
use Rattle.schema_semantics.specs.Faults.{IsResolved}
use Rattle.schema_names.specs.Numbers.{number_of, HasNumber, AreNumberRowsOf}
use Rattle.schema_names.specs.Edges.{IsGraphOf, parts_in}
use Rattle.schema_names.proofs.Edges.{within, number-within}
use Rattle.schema_data_types.specs.NumberedTypes.{all_data_types, whole_types}
use Rattle.conformance.specs.Bases.{Domain, IsDomain, IsItem}
use Rattle.schema_underlying_types.specs.declared.base.Base.{Base}
use Rattle.schema_underlying_types.specs.declared.base.Base.TheVariants.{Integer}
use Rattle.schema_underlying_types.specs.declared.bases.BaseTypes.{BaseTypes}
use Rattle.schema_underlying_types.specs.Tables.{AreBaseTypes, IsNumberedBase}
use Rattle.schema_underlying_types.specs.steps.Measures.{bound_in, width_in}
use Rattle.schema_underlying_types.specs.BaseEntries.{entry, base_of, bases_from, AreMade, AreItems}
use Rattle.schema_underlying_types.proofs.Whole.{bound-checked, width-checked}
use Rattle.schema_underlying_types.proofs.Going.{from-length, number-at, number-back}
use Rattle.schema_underlying_types.proofs.Domains.{measures-of, name_base, domain-types, domain-entities, entry-same, number-same, entry-numbered, number-numbered}
use Rattle.schema_underlying_types.proofs.Opening.{item-forth, item-back, item-first, item-last}

pub same-test : (b c : Bool) → (b ≡ true → c ≡ true) → (c ≡ true → b ≡ true) → b ≡ c
same-test true c f g = sym (f refl)
same-test false true f g = g refl
same-test false false f g = refl

pub some-is : {A : Type 0} (x y : A) → Some x ≡ Some y → x ≡ y
some-is x y e = cc

module _ (s : Schema) (r : IsResolved s) (g : Graph) (h : IsGraphOf s parts_in g) (order : List ℕ)
    (o : IsTopologicalOrder g order) (rows : Graph)
    (each : AreNumberRowsOf whole_types (all_data_types s) s.declarations rows) (declared : List Base)
    (made : AreMade s rows declared) (found : Graph) (are : AreItems declared g found) where
  abbrev item_test : Option ℕ → Option ℕ → Bool
  item_test (Some i) (Some j) = has (next found i) j
  item_test i j = false

  -- the functions that the tables say
  abbrev domain : Domain
  domain = record {
    bound = bound_in;
    width = width_in;
    of_name = name_base s r g h order o rows each declared made;
    is_item = λ m n. item_test (number_of s m) (number_of s n);
  }

  item-true : (m n : Name) (p q : Option ℕ) → number_of s m ≡ p → number_of s n ≡ q → item_test p q ≡ true
      → IsItem s m n
  item-true m n (Some i) (Some j) k l e =
      item-forth s r g h order o rows each declared made found are m n i j k l e
  item-true m n (Some i) None k l e = absurd (cc)
  item-true m n None q k l e = absurd (cc)

  true-item : (m n : Name) → IsItem s m n → item_test (number_of s m) (number_of s n) ≡ true
  true-item m n is =
      let (i, k) = item-first s m n is in
      let (j, l) = item-last s r m n is in
      ap (λ (p : Option ℕ). item_test p (number_of s n)) k ∙ ap (item_test (Some i)) l
      ∙ item-back s r g h order o rows each declared made found are m n i j k l is

  is-domain : IsDomain s domain
  is-domain = record {
    bounds = bound-checked;
    widths = width-checked;
    types = domain-types s r g h order o rows each declared made domain (record {
      bounds = λ b. refl;
      widths = λ w. refl;
    }) (λ n. refl);
    entities = domain-entities s r g h order o rows each declared made domain (λ n. refl);
    items = λ m n. (item-true m n (number_of s m) (number_of s n) refl refl, true-item m n);
  }

  pub are-base-types : (t : BaseTypes) → t.by_declaration.items ≡ declared
      → length declared ≡ length s.declarations
      → t.by_number.items ≡ bases_from s declared 0 (all_data_types s) → graph_of t.items.items ≡ found
      → AreBaseTypes s t
  are-base-types t all long numbers items = record {
    exists = (domain, is-domain);
    count = ap length numbers ∙ from-length s declared 0 (all_data_types s);
    by_number = λ d is i k at known. (
      base_of s declared (i + 1) k,
      ap (λ (bs : List Base). slice_get bs i) numbers ∙ number-at s declared i (all_data_types s) k at,
      number-same s r g h order o rows each declared made d (measures-of s d is) is i k at known,
    );
    by_declaration = λ d is n i k. (
      entry declared i,
      ap (λ (bs : List Base). slice_get bs i) all ∙ slice_get-get_or declared i Integer (below n i k),
      entry-same s r g h order o rows each declared made d (measures-of s d is) is i n k,
    );
    items = λ d is m n i j k l.
        ap (λ (f : Graph). has (next f i) j) items
        ∙ same-test (has (next found i) j) (d.is_item m n)
        (λ e. (is.items m n).1 (item-forth s r g h order o rows each declared made found are m n i j k l e))
        (λ e. item-back s r g h order o rows each declared made found are m n i j k l ((is.items m n).0 e));
    sorted = λ i. subst (λ (f : Graph). IsNonDecreasing (next f i)) (sym items) (are.sorted i);
    numbered = λ i b at. (let there = ap (λ (bs : List Base). slice_get bs i) (sym numbers) ∙ at in
        let (k, here) = number-back s declared i (all_data_types s) b there in
        subst (IsNumberedBase s) (some-is (base_of s declared (i + 1) k) b
        (sym (number-at s declared i (all_data_types s) k here) ∙ there))
        (number-numbered s r g h order o rows each declared made i k here));
    declared = λ i b at. (let there = ap (λ (bs : List Base). slice_get bs i) (sym all) ∙ at in
        let lt = within declared i b there in
        subst (IsNumberedBase s) (some-is (entry declared i) b (sym (slice_get-get_or declared i Integer lt) ∙ there))
        (entry-numbered s r g h order o rows each declared made i (omega (arith, lt, long))));
  }
    where
      below : (n : Name) (i : ℕ) → HasNumber s n i → i < length declared
      below n i k = let lt = number-within s n i k in omega (arith, lt, long)
