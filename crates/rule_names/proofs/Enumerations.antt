-- Items of enumerations.
use Rattle.std.specs.Prelude.{◌≡◌, ℕ, Bool, true, false, ◌&&◌, ◌||◌, ◌↔◌, List, [], ◌∷◌, Some, None, bytes_eq}
use Rattle.std.specs.List.{list_any}
use Rattle.std.proofs.Common.{refl, sym, ap, subst, ◌∙◌, inl, inr}
use Rattle.std.proofs.lemmas.Slice.Eq.{bytes_eq-Decides}
use Rattle.step_literals.specs.declared.literal.Word.{Word}
use Rattle.express_syntax.specs.ExpressionViews.{capitals}
use Rattle.express_syntax.specs.Schemas.{Schema, Declaration, type, entity, skipped, TypeDeclaration, Underlying, enumeration, select, data_type}
use Rattle.express_syntax.specs.Views.{names_of}
use Rattle.schema_semantics.specs.Faults.{IsResolved, declared, enumerated_items}
use Rattle.schema_semantics.specs.Names.{Name, Among, IsTypeAt, types, type_declarations_of}
use Rattle.schema_semantics.specs.Sets.{IsItemOf}
use Rattle.schema_semantics.proofs.Bools.{is-false, or-left, or-right}
use Rattle.schema_semantics.proofs.Lists.{are-fresh}
use Rattle.schema_semantics.proofs.Recursion.{to-any}
use Rattle.schema_semantics.proofs.Supertypes.{found, stands}
use Rattle.schema_names.specs.Numbers.{number_of, HasNumber, IsAt}
use Rattle.schema_names.proofs.Numbers.{stands-at}
use Rattle.conformance.specs.ParameterFits.{is_listed}
use Rattle.schema_underlying_types.specs.declared.base.Base.{Base}
use Rattle.schema_underlying_types.specs.declared.base.Base.TheVariants as variants
use Rattle.schema_underlying_types.specs.BaseViews.{base_seen}
use Rattle.conformance.specs.Meanings.{type_names, items_in}
use Rattle.rule_names.specs.steps.Naming.{is_type, types_among}
use Rattle.rule_names.proofs.Saying.{stands_for, undeclared}

any_of : (n : Name) (ns : List Name) → is_listed n ns ≡ true → Among n ns
any_of n [] h = absurd (cc)
any_of n (m ∷ ns) h = by (bytes_eq n m) refl h (any_of n ns)
  where
    by : (b : Bool) → bytes_eq n m ≡ b → (b || is_listed n ns) ≡ true → (is_listed n ns ≡ true → Among n ns)
        → Among n (m ∷ ns)
    by true e k more = inl (sym ((bytes_eq-Decides n m).0 e))
    by false e k more = inr (more k)

-- words by their names
pub among_words : (n : Name) (ws : List Word) → list_any (λ (w : Word). bytes_eq n (capitals w)) ws ≡ is_listed n (names_of ws)
among_words n [] = refl
among_words n (w ∷ ws) = ap (λ b. bytes_eq n (capitals w) || b) (among_words n ws)

-- defined types that pass a test
module _ (p : TypeDeclaration → Bool) where
  find_type : (ds : List Declaration) → list_any p (type_declarations_of ds) ≡ true → (t : TypeDeclaration) × Among (type t) ds
      × (p t ≡ true)
  find_type [] h = absurd (cc)
  find_type (type t ∷ ds) h = by (p t) refl h (find_type ds)
    where
      by : (b : Bool) → p t ≡ b → (b || list_any p (type_declarations_of ds)) ≡ true
          → (list_any p (type_declarations_of ds) ≡ true → (t : TypeDeclaration) × Among (type t) ds × (p t ≡ true))
          → (u : TypeDeclaration) × Among (type u) (type t ∷ ds) × (p u ≡ true)
      by true e k more = (t, inl refl, e)
      by false e k more = let (u, m, h) = more k in (u, inr m, h)
  find_type (entity x ∷ ds) h = let (u, m, k) = find_type ds h in (u, inr m, k)
  find_type (skipped s ∷ ds) h = let (u, m, k) = find_type ds h in (u, inr m, k)

  any_type : (ds : List Declaration) (t : TypeDeclaration) → Among (type t) ds → p t ≡ true → list_any p (type_declarations_of ds) ≡ true
  any_type [] t m h = elim m [ ]
  any_type (type u ∷ ds) t (inl e) h =
      let same : u ≡ t = cc in or-left (p u) (list_any p (type_declarations_of ds)) (ap p same ∙ h)
  any_type (type u ∷ ds) t (inr m) h = or-right (p u) (list_any p (type_declarations_of ds)) (any_type ds t m h)
  any_type (entity x ∷ ds) t (inl e) h = absurd (cc)
  any_type (entity x ∷ ds) t (inr m) h = any_type ds t m h
  any_type (skipped s ∷ ds) t (inl e) h = absurd (cc)
  any_type (skipped s ∷ ds) t (inr m) h = any_type ds t m h

of_items : (u : Underlying) (n : Name) → Among n (enumerated_items u) → (items : List Name) × (u ≡ enumeration items) × Among n items
of_items (enumeration items) n m = (items, refl, m)
of_items (select items) n m = elim m [ ]
of_items (data_type k) n m = elim m [ ]

module _ (s : Schema) (r : IsResolved s) where
  -- the items of all enumerations
  pub item_told : (n : Name) → ((t : Name) × IsItemOf s t n)
      ↔ (list_any (λ (t : TypeDeclaration). is_listed n (enumerated_items t.underlying)) (types s) ≡ true)
  item_told n = (forth, back)
    where
      forth : ((t : Name) × IsItemOf s t n)
          → list_any (λ (t : TypeDeclaration). is_listed n (enumerated_items t.underlying)) (types s) ≡ true
      forth (t, (e, items, way, (d, at, u), m)) =
          any_type (λ (t : TypeDeclaration). is_listed n (enumerated_items t.underlying)) s.declarations d
          (found s.declarations e (type d) at).0
          (to-any n (enumerated_items d.underlying) (subst (λ x. Among n (enumerated_items x)) (sym u) m))

      back : list_any (λ (t : TypeDeclaration). is_listed n (enumerated_items t.underlying)) (types s) ≡ true
          → (t : Name) × IsItemOf s t n
      back h =
          let (t, there, here) =
          find_type (λ (t : TypeDeclaration). is_listed n (enumerated_items t.underlying)) s.declarations h in
          let (items, is, m) = of_items t.underlying n (any_of n (enumerated_items t.underlying) here) in
          let at = stands 1 s.declarations (type t) t.name (are-fresh (declared s) r.once) there refl in
          (t.name, (t.name, items, inl refl, (t, at, is), m))

  -- whether a name is that of a defined type
  pub type_told : (n : Name) (i : ℕ) → HasNumber s n i → (d : Declaration) → IsAt s i d
      → is_type d ≡ is_listed n (type_names s)
  type_told n i h (type t) at =
      let known = found s.declarations n (type t) (stands-at s n i h ∙ at) in
      sym (to-any n (type_names s) (named_among s.declarations t known.0 (one known.1)))
    where
      one : Some t.name ≡ Some n → t.name ≡ n
      one e = cc

      named_among : (ds : List Declaration) (t : TypeDeclaration) → Among (type t) ds → t.name ≡ n → Among n (types_among ds)
      named_among [] t m e = elim m [ ]
      named_among (type u ∷ ds) t (inl q) e = let same : u ≡ t = cc in inl (ap (λ (x : TypeDeclaration). x.name) same ∙ e)
      named_among (type u ∷ ds) t (inr m) e = inr (named_among ds t m e)
      named_among (entity x ∷ ds) t (inl q) e = absurd (cc)
      named_among (entity x ∷ ds) t (inr m) e = named_among ds t m e
      named_among (skipped p ∷ ds) t (inl q) e = absurd (cc)
      named_among (skipped p ∷ ds) t (inr m) e = named_among ds t m e
  type_told n i h (entity x) at =
      sym (is-false (is_listed n (type_names s)) (λ k. none (stands_for s r n (any_of n (type_names s) k))))
    where
      none : (t : TypeDeclaration) × IsTypeAt s n t → ⊥
      none (t, there) = let two : Some (type t) ≡ Some (entity x) = sym there ∙ stands-at s n i h ∙ at in absurd (cc)
  type_told n i h (skipped p) at =
      sym (is-false (is_listed n (type_names s)) (λ k. none (stands_for s r n (any_of n (type_names s) k))))
    where
      none : (t : TypeDeclaration) × IsTypeAt s n t → ⊥
      none (t, there) = let two : Some (type t) ≡ Some (skipped p) = sym there ∙ stands-at s n i h ∙ at in absurd (cc)

  -- a name that isn't declared is no defined type
  pub no_type : (n : Name) → None ≡ number_of s n → false ≡ is_listed n (type_names s)
  no_type n e =
      sym (is-false (is_listed n (type_names s)) (λ k. by (stands_for s r n (any_of n (type_names s) k))))
    where
      by : (t : TypeDeclaration) × IsTypeAt s n t → ⊥
      by (t, at) = undeclared s r n e t at

-- what stands for no enumeration has no items
pub no_items : (s : Schema) (b : Base) → ((i : ℕ) → b ≡ variants.Enumeration i → ⊥) → [] ≡ items_in (base_seen s b)
no_items s variants.Integer f = refl
no_items s variants.Number f = refl
no_items s variants.Boolean f = refl
no_items s variants.Logical f = refl
no_items s (variants.String l) f = refl
no_items s (variants.Binary l) f = refl
no_items s (variants.Enumeration i) f = absurd (f i refl)
no_items s (variants.Entity i) f = refl
no_items s (variants.Select i) f = refl
no_items s (variants.Aggregate a) f = refl

-- both tests of a name and of an item
pub both_told : {a b c d : Bool} → a ≡ b → c ≡ d → (a && c) ≡ (b && d)
both_told e f = λ k. e k && f k
