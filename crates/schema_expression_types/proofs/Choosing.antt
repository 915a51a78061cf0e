-- What a reference is, by what it means.
use Rattle.std.specs.Prelude.{◌≡◌, ℕ, ◌-◌, ◌≤◌, true, IsTrue, List, [], ◌∷◌, ◌⊎◌, ◌↔◌, map, length, take, drop, slice_get, Some, None}
use Rattle.std.proofs.Common.{refl, inl, inr, sym, ap, subst, ◌∙◌, arith, length-drop}
use Rattle.std.proofs.lemmas.List.{take_all}
use Rattle.express_syntax.specs.declared.expression.Qualifier.{Qualifier}
use Rattle.express_syntax.specs.Trees.{Root, Qualifiers, plain, attribute, group, index, named, own}
use Rattle.express_syntax.specs.ExpressionViews.{Selection, of_attribute, of_group, of_element, selections_of, selection_of, qualifiers_of}
use Rattle.express_syntax.specs.Schemas.{Schema}
use Rattle.schema_semantics.specs.Names.{Name, OneOf, IsFirst}
use Rattle.schema_semantics.specs.Shapes.{Atom, an_item}
use Rattle.schema_semantics.specs.Attributes.{Derivation}
use Rattle.schema_semantics.specs.Sets.{Set, Only, QueryVariable, IsVariable, IsItemOf, WithSubtypes, of_set, MayTake, IsUnclear, MayUse, path_behind, path, Meaning, itself, variable, attribute_of_self, item_of_type, item, MayMean, Means, OfReference, IsUnclearReference, ReferenceMayUse}
use Rattle.schema_data_types.specs.steps.Values.{Holds}
use Rattle.schema_attributes.specs.Derivations.{HoldsDerivation}
use Rattle.schema_attribute_references.specs.steps.Taking.{IsSet}
use Rattle.schema_expression_types.specs.declared.references.Reference.{Reference}
use Rattle.schema_expression_types.specs.steps.Scopes.{IsReferred}
use Rattle.schema_expression_types.specs.steps.Paths.{IsPath}
use Rattle.schema_expression_types.specs.steps.Meanings.{BeginWithItem}

one-first : {A : Type 0} (P : A → Type 0) (xs : List A) (x y : A) → IsFirst P xs x → IsFirst P xs y → x ≡ y
one-first P [] x y h k = elim h [ ]
one-first P (z ∷ zs) x y (inl (p, e)) (inl (q, f)) = sym e ∙ f
one-first P (z ∷ zs) x y (inl (p, e)) (inr (q, k)) = absurd (q p)
one-first P (z ∷ zs) x y (inr (p, h)) (inl (q, f)) = absurd (p q)
one-first P (z ∷ zs) x y (inr (p, h)) (inr (q, k)) = one-first P zs x y h k

first-holds : {A : Type 0} (P : A → Type 0) (xs : List A) (x : A) → IsFirst P xs x → P x
first-holds P [] x h = elim h [ ]
first-holds P (z ∷ zs) x (inl (p, e)) = subst P e p
first-holds P (z ∷ zs) x (inr (p, h)) = first-holds P zs x h

-- all but the first
pub rest-is : {A : Type 0} (xs : List A) → take (length xs - 1) (drop 1 xs) ≡ drop 1 xs
rest-is xs = take_all (length xs - 1) (drop 1 xs) (let e = length-drop 1 xs in omega (arith, e))

module _ (s : Schema) (self : Set) (vs : List QueryVariable) where
  module _ (r : Root) (qs : Qualifiers) where
    one-meaning : (m k : Meaning) → Means s self vs r qs m → Means s self vs r qs k → m ≡ k
    one-meaning m k =
        one-first (MayMean s self vs r qs) (itself ∷ variable ∷ attribute_of_self ∷ item_of_type ∷ item ∷ []) m k

    pub may-mean : (m : Meaning) → Means s self vs r qs m → MayMean s self vs r qs m
    may-mean m =
        first-holds (MayMean s self vs r qs) (itself ∷ variable ∷ attribute_of_self ∷ item_of_type ∷ item ∷ []) m

    -- what a reference with a meaning is
    pub referred : (m : Meaning) (t : Reference) → Means s self vs r qs m → IsPath s (path s self vs r qs m) t
        → IsReferred s self vs r qs t
    referred m t means is =
        record {
          unclear = (λ u. inr (m, means, is.unclear.0 u), unclear-back);
          may = λ x. (λ h. (m, means, (is.may x).0 h), may-back x);
          uses = λ d. (λ u. (m, means, (is.uses d).0 u), uses-back d);
        }
      where
        unclear-back : IsUnclearReference s self vs r qs → IsTrue t.is_unclear
        unclear-back (inl missing) = absurd (missing m (may-mean m means))
        unclear-back (inr (k, other, o)) =
            is.unclear.1 (subst (λ j. OneOf (IsUnclear s) (path s self vs r qs j).attributes)
            (one-meaning k m other means) o)

        may-back : (x : Atom) → OfReference s self vs r qs x → Holds s t.may.items x
        may-back x (k, other, h) =
            (is.may x).1 (subst (λ j. (path s self vs r qs j).may x) (one-meaning k m other means) h)

        uses-back : (d : Derivation) → ReferenceMayUse s self d vs r qs → HoldsDerivation s t.uses.items d
        uses-back d (k, other, o) =
            (is.uses d).1 (subst (λ j. OneOf (MayUse s d) (path s self vs r qs j).attributes)
            (one-meaning k m other means) o)

    -- a reference without a meaning
    pub unreferred : (t : Reference) → ((m : Meaning) → MayMean s self vs r qs m → ⊥) → IsTrue t.is_unclear
        → t.may.items ≡ [] → t.uses.items ≡ [] → IsReferred s self vs r qs t
    unreferred t missing unclear may uses =
        record {
          unclear = (λ u. inl missing, λ o. unclear);
          may = λ x. (
            λ h. absurd (subst (λ xs. Holds s xs x) may h),
            λ (m, means, h). absurd (missing m (may-mean m
                means)),
          );
          uses = λ d. (
            λ h. absurd (subst (λ xs. HoldsDerivation s xs d) uses h),
            λ (m, means, h). absurd (missing m
                (may-mean m means)),
          );
        }

  -- SELF
  pub referred-itself : (qs : Qualifiers) (t : Reference) → IsPath s (path_behind s self qs) t
      → IsReferred s self vs own qs t
  referred-itself qs t h = referred own qs itself t (inl (tt, refl)) h

  module _ (n : Name) where
    pub means-variable : (qs : Qualifiers) → IsVariable vs n → Means s self vs (named n) qs variable
    means-variable qs h = inr (λ e. e, inl (h, refl))

    module _ (other : IsVariable vs n → ⊥) where
      pub means-attribute : (qs : Qualifiers) → (p : Name) × MayTake s (of_set (WithSubtypes s self) n) p
          → Means s self vs (named n) qs attribute_of_self
      means-attribute qs h = inr (λ e. e, inr (other, inl (h, refl)))

      module _ (none : (p : Name) → MayTake s (of_set (WithSubtypes s self) n) p → ⊥) where
        no-attribute : (p : Name) × MayTake s (of_set (WithSubtypes s self) n) p → ⊥
        no-attribute (p, h) = none p h

        pub means-type : (qs : Qualifiers) → BeginWithItem s n qs → Means s self vs (named n) qs item_of_type
        means-type (attribute i qs) h = inr (λ e. e, inr (other, inr (no-attribute, inl (h, refl))))
        means-type plain h = elim h [ ]
        means-type (group e a qs) h = elim h [ ]
        means-type (index i qs) h = elim h [ ]

        pub means-item : (qs : Qualifiers) → (BeginWithItem s n qs → ⊥) → (t : Name) × IsItemOf s t n
            → Means s self vs (named n) qs item
        means-item (attribute i qs) not h = inr (λ e. e, inr (other, inr (no-attribute, inr (not, inl (h, refl)))))
        means-item plain not h = inr (λ e. e, inr (other, inr (no-attribute, inr (λ e. e, inl (h, refl)))))
        means-item (group e a qs) not h = inr (λ e. e, inr (other, inr (no-attribute, inr (λ e. e, inl (h, refl)))))
        means-item (index i qs) not h = inr (λ e. e, inr (other, inr (no-attribute, inr (λ e. e, inl (h, refl)))))

        pub means-nothing : (qs : Qualifiers) → (BeginWithItem s n qs → ⊥) → ((t : Name) × IsItemOf s t n → ⊥)
            → (m : Meaning) → MayMean s self vs (named n) qs m → ⊥
        means-nothing qs not lost itself h = h
        means-nothing qs not lost variable h = other h
        means-nothing qs not lost attribute_of_self h = no-attribute h
        means-nothing (attribute i qs) not lost item_of_type h = not h
        means-nothing plain not lost item_of_type h = h
        means-nothing (group e a qs) not lost item_of_type h = h
        means-nothing (index i qs) not lost item_of_type h = h
        means-nothing qs not lost item h = lost h

    -- the item of a type stands first, and its path goes on behind it
    pub some-first : (xs : List Qualifier) → MayMean s self vs (named n) (qualifiers_of xs) item_of_type
        → 1 ≤ length xs
    some-first [] h = elim h [ ]
    some-first (x ∷ xs) h = omega arith

    behind-first : (q : Selection) (qs : List Selection)
        → MayMean s self vs (named n) (selections_of (q ∷ qs)) item_of_type
        → path s self vs (named n) (selections_of (q ∷ qs)) item_of_type
        ≡ path_behind s (Only an_item) (selections_of qs)
    behind-first (of_attribute i) qs h = refl
    behind-first (of_group e a) qs h = elim h [ ]
    behind-first (of_element i) qs h = elim h [ ]

    pub path-of-type : (xs : List Qualifier) → MayMean s self vs (named n) (qualifiers_of xs) item_of_type
        → path s self vs (named n) (qualifiers_of xs) item_of_type
        ≡ path_behind s (Only an_item) (qualifiers_of (drop 1 xs))
    path-of-type [] h = elim h [ ]
    path-of-type (x ∷ xs) h = behind-first (selection_of x) (map selection_of xs) h

module _ (s : Schema) (n : Name) where
  -- what is selected first is an item of the type
  abbrev pub IsItemSelected : Selection → Type 0
  IsItemSelected (of_attribute a) = IsItemOf s n a
  IsItemSelected q = ⊥

  first-forth : (q : Selection) (qs : List Selection) → BeginWithItem s n (selections_of (q ∷ qs)) → IsItemSelected q
  first-forth (of_attribute a) qs h = h
  first-forth (of_group e a) qs h = h
  first-forth (of_element x) qs h = h

  first-back : (q : Selection) (qs : List Selection) → IsItemSelected q → BeginWithItem s n (selections_of (q ∷ qs))
  first-back (of_attribute a) qs h = h
  first-back (of_group e a) qs h = elim h [ ]
  first-back (of_element x) qs h = elim h [ ]

  pub begins : (xs : List Qualifier) (x : Qualifier) → slice_get xs 0 ≡ Some x → (q : Selection) → selection_of x ≡ q
      → BeginWithItem s n (qualifiers_of xs) ↔ IsItemSelected q
  begins [] x at q e = absurd (cc)
  begins (y ∷ ys) x at q e =
      let same : y ≡ x = cc in
      let is = ap selection_of same ∙ e in (
        λ h. subst IsItemSelected is (first-forth (selection_of y) (map selection_of ys) h),
        λ h. first-back (selection_of y) (map selection_of ys) (subst IsItemSelected (sym is) h),
      )

  pub none-begins : (xs : List Qualifier) → slice_get xs 0 ≡ None → BeginWithItem s n (qualifiers_of xs) → ⊥
  none-begins [] at h = h
  none-begins (y ∷ ys) at h = absurd (cc)
