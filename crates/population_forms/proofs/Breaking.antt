-- How often types break what is said of them, by number.
use Rattle.std.specs.Prelude.{◌≡◌, ℕ, Bool, true, false, ◌||◌, ◌&&◌, not, nat_lt, List, [], ◌∷◌, map, filter_map, bytes_eq, ◌⊎◌}
use Rattle.std.specs.List.{list_any, filter}
use Rattle.std.proofs.Common.{refl, inl, inr, ap, sym, ◌∙◌}
use Rattle.std.proofs.lemmas.Slice.Eq.{bytes_eq-Decides}
use Rattle.graphs.specs.Graphs.{Graph, has, next}
use Rattle.express_syntax.specs.Schemas.{Schema}
use Rattle.express_syntax.specs.Profile.{Every}
use Rattle.schema_semantics.specs.Names.{Name}
use Rattle.schema_semantics.specs.Faults.{IsResolved}
use Rattle.schema_names.specs.Numbers.{number_of, HasNumber}
use Rattle.schema_names.proofs.Numbers.{stands-at}
use Rattle.schema_explicit_attributes.specs.Supertypes.{AreAbove}
use Rattle.schema_underlying_types.specs.BaseViews.{name_at}
use Rattle.conformance.specs.ParameterFits.{is_listed, entity_names}
use Rattle.conformance.specs.Entities.{Entities, AreEntities, is_abstract, is_abstract_in, is_leaf, how_many, one_ofs, abstract_leaves, missing_supertypes, broken_one_ofs}
use Rattle.population_forms.specs.steps.Marked.{AreSorted, is_above, is_abstract_at, has_two}
use Rattle.population_forms.proofs.Naming.{same-test, AreNumbered, among-is}
use Rattle.population_forms.proofs.Kindred.{either, above-entity, below-is}
use Rattle.population_forms.proofs.Counted.{counted, counted-mapped, counted-alike, counted-both, two-among}
use Rattle.population_forms.proofs.Operating.{operand-is}
use Rattle.population_forms.proofs.Typed.{IsNumberOfEntity, rows-are, row, row-names, row-entities, row-once, row-numbered, own-entity}

turned : (m n : Name) → bytes_eq m n ≡ bytes_eq n m
turned m n =
    same-test (bytes_eq m n) (bytes_eq n m) (λ e. (bytes_eq-Decides n m).1 (sym ((bytes_eq-Decides m n).0 e)))
    (λ e. (bytes_eq-Decides m n).1 (sym ((bytes_eq-Decides n m).0 e)))

and-false : (b : Bool) → (b && false) ≡ false
and-false true = refl
and-false false = refl

-- of what isn't among the types, all kinds are proper ones
proper-or-not : (kind : Name → Bool) (e : Name) (types : List Name)
    → (list_any (λ t. kind t && not (bytes_eq t e)) types && not (is_listed e types))
    ≡ (list_any kind types && not (is_listed e types))
proper-or-not kind e [] = refl
proper-or-not kind e (t ∷ types) = by (bytes_eq e t) refl (kind t) (proper-or-not kind e types)
  where
    proper : Bool
    proper = list_any (λ x. kind x && not (bytes_eq x e)) types

    by : (b : Bool) → bytes_eq e t ≡ b → (c : Bool)
        → (list_any (λ x. kind x && not (bytes_eq x e)) types && not (is_listed e types))
        ≡ (list_any kind types && not (is_listed e types))
        → (((c && not (bytes_eq t e)) || list_any (λ x. kind x && not (bytes_eq x e)) types)
        && not (bytes_eq e t || is_listed e types))
        ≡ ((c || list_any kind types) && not (bytes_eq e t || is_listed e types))
    by true is c h =
        ap (λ b. ((c && not (bytes_eq t e)) || list_any (λ x. kind x && not (bytes_eq x e)) types)
        && not (b || is_listed e types)) is
        ∙ and-false ((c && not (bytes_eq t e)) || list_any (λ x. kind x && not (bytes_eq x e)) types)
        ∙ sym (ap (λ b. (c || list_any kind types) && not (b || is_listed e types)) is
        ∙ and-false (c || list_any kind types))
    by false is true h =
        ap (λ b. ((true && not b) || list_any (λ x. kind x && not (bytes_eq x e)) types)
        && not (bytes_eq e t || is_listed e types)) (turned t e ∙ is)
    by false is false h =
        ap (λ b. list_any (λ x. kind x && not (bytes_eq x e)) types && not (b || is_listed e types)) is ∙ h
        ∙ sym (ap (λ b. list_any kind types && not (b || is_listed e types)) is)

module _ (s : Schema) (r : IsResolved s) (rows : Graph) (h : AreAbove s rows) (en : Entities)
    (g : AreEntities s en) where
  -- one of these types is another one, below it
  abbrev is_below : List Name → Name → Bool
  is_below types e = list_any (λ t. en.is_kind_of t e && not (bytes_eq t e)) types

  below-told : (n : Name) (j : ℕ) → HasNumber s n j → (xs : List ℕ) → AreNumbered s xs
      → is_above rows xs j ≡ is_below (map (name_at s) xs) n
  below-told n j k [] each = refl
  below-told n j k (i ∷ xs) each =
      ap (λ b. b || is_above rows xs j) (sym (below-is s r rows h en g (name_at s i) n i j each.0 k))
      ∙ ap (λ b. (en.is_kind_of (name_at s i) n && not (bytes_eq (name_at s i) n)) || b) (below-told n j k xs each.1)

  above-only : (xs : List ℕ) → AreNumbered s xs → (j : ℕ) → is_above rows xs j ≡ true → IsNumberOfEntity s r j
  above-only [] each j e = absurd (cc)
  above-only (i ∷ xs) each j e =
      by (either (has (next rows i) j) (is_above rows xs j) e) (above-only xs each.1 j)
    where
      by : (has (next rows i) j ≡ true) ⊎ (is_above rows xs j ≡ true)
          → (is_above rows xs j ≡ true → IsNumberOfEntity s r j) → IsNumberOfEntity s r j
      by (inl here) more = above-entity s r rows h (name_at s i) i j each.0 here
      by (inr there) more = more there

  module _ (test : Name → Bool) (above : List ℕ) (k : AreSorted (is_above rows (row s r test)) above) where
    abbrev types : List Name
    types = filter test (entity_names s)

    told : (n : Name) (j : ℕ) → HasNumber s n j → is_above rows (row s r test) j ≡ is_below types n
    told n j l =
        below-told n j l (row s r test) (row-numbered s r test) ∙ ap (λ ts. is_below ts n) (row-names s r test)

    above-are : above ≡ row s r (is_below types)
    above-are =
        rows-are s r (is_below types) (is_above rows (row s r test)) above (λ n j e l. told n j l)
        (above-only (row s r test) (row-numbered s r test)) k

    leaf-is : (i : ℕ) → IsNumberOfEntity s r i
        → (is_leaf s en types (name_at s i) && is_abstract s (name_at s i))
        ≡ (not (has above i) && is_abstract_at s i)
    leaf-is i entities =
        let ((x, at), l) = own-entity s r i entities in
        ap (λ b. not b && is_abstract s (name_at s i)) (sym (k.told i ∙ told (name_at s i) i l))
        ∙ ap (λ d. not (has above i) && is_abstract_in d) (stands-at s (name_at s i) i l)

    leaves-are : (xs : List ℕ) → Every (IsNumberOfEntity s r) xs
        → Every (λ i. (is_leaf s en types (name_at s i) && is_abstract s (name_at s i))
        ≡ (not (has above i) && is_abstract_at s i)) xs
    leaves-are [] each = tt
    leaves-are (i ∷ xs) each = (leaf-is i each.0, leaves-are xs each.1)

    pub abstract-is : how_many (λ i. not (has above i) && is_abstract_at s i) (row s r test)
        ≡ abstract_leaves s en types
    abstract-is =
        sym (counted (name_at s) (λ e. is_leaf s en types e && is_abstract s e)
        (λ i. not (has above i) && is_abstract_at s i) (row s r test)
        (leaves-are (row s r test) (row-entities s r test)))
        ∙ ap (how_many (λ e. is_leaf s en types e && is_abstract s e)) (row-names s r test)

    among-told : (n : Name) (i : ℕ) → HasNumber s n i → is_listed n types ≡ has (row s r test) i
    among-told n i l =
        ap (is_listed n) (sym (row-names s r test)) ∙ among-is s n i l (row s r test) (row-numbered s r test)

    missing-are : (xs : List ℕ) → AreNumbered s xs
        → Every (λ i. not (is_listed (name_at s i) types) ≡ not (has (row s r test) i)) xs
    missing-are [] each = tt
    missing-are (i ∷ xs) each = (ap not (among-told (name_at s i) i each.0), missing-are xs each.1)

    pub missing-is : how_many (λ i. not (has (row s r test) i)) above
        ≡ missing_supertypes s en types
    missing-is =
        ap (how_many (λ i. not (has (row s r test) i))) above-are
        ∙ sym (counted (name_at s) (λ n. not (is_listed n types)) (λ i. not (has (row s r test) i))
        (row s r (is_below types)) (missing-are (row s r (is_below types)) (row-numbered s r (is_below types))))
        ∙ ap (how_many (λ n. not (is_listed n types))) (row-names s r (is_below types))
        ∙ counted-both (is_below types) (λ n. not (is_listed n types)) (entity_names s)
        ∙ counted-alike (λ n. is_below types n && not (is_listed n types))
        (λ n. list_any (λ t. en.is_kind_of t n) types && not (is_listed n types))
        (λ n. proper-or-not (λ t. en.is_kind_of t n) n types) (entity_names s)

    among-operands : (ns : List Name) (xs : List ℕ) → AreNumbered s xs
        → Every (λ i. is_listed (name_at s i) ns ≡ has (filter_map (number_of s) ns) i) xs
    among-operands ns [] each = tt
    among-operands ns (i ∷ xs) each = (operand-is s (name_at s i) i each.0 ns, among-operands ns xs each.1)

    two-is : (ns : List Name) → has_two (row s r test) (filter_map (number_of s) ns)
        ≡ nat_lt 1 (how_many (λ t. is_listed t ns) types)
    two-is ns =
        two-among (row s r test) (row-once s r test) (filter_map (number_of s) ns)
        ∙ ap (nat_lt 1) (sym (counted (name_at s) (λ t. is_listed t ns) (has (filter_map (number_of s) ns)) (row s r test)
        (among-operands ns (row s r test) (row-numbered s r test)))
        ∙ ap (how_many (λ t. is_listed t ns)) (row-names s r test))

    pub broken-is : (operands : Graph) → operands ≡ map (filter_map (number_of s)) (one_ofs s)
        → how_many (has_two (row s r test)) operands ≡ broken_one_ofs s en types
    broken-is operands is =
        ap (how_many (has_two (row s r test))) is
        ∙ counted-mapped (filter_map (number_of s)) (has_two (row s r test)) (one_ofs s)
        ∙ counted-alike (λ ns. has_two (row s r test) (filter_map (number_of s) ns))
        (λ ns. nat_lt 1 (how_many (λ t. is_listed t ns) types)) two-is (one_ofs s)
