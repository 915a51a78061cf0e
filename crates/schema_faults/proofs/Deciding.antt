-- Whether names are kinds of others and attributes are there, decided by numbers.
use Rattle.std.specs.Prelude.{◌≡◌, ℕ, Bool, true, false, ◌&&◌, ◌⊎◌, eqb, List, [], ◌∷◌, Option, None, Some}
use Rattle.std.specs.List.{list_any}
use Rattle.std.proofs.Common.{refl, inl, inr, sym, subst, arith}
use Rattle.std.proofs.lemmas.Bool.Decides.{nat_tests}
use Rattle.graphs.specs.Graphs.{Graph, has, next}
use Rattle.graphs.proofs.Searching.{either, left-holds}
use Rattle.express_syntax.specs.Profile.{Every}
use Rattle.express_syntax.specs.Schemas.{Schema, entity, redeclared}
use Rattle.schema_semantics.specs.Names.{Name, OneOf, IsSubtypeOf, IsEntity, IsBelow, IsKindOf, HasAttribute, HasExplicit}
use Rattle.schema_semantics.specs.Faults.{IsMet, inherited, inverted, demands_of_attribute}
use Rattle.schema_semantics.proofs.Lists.{first-step}
use Rattle.schema_names.specs.Numbers.{number_of, HasNumber}
use Rattle.schema_names.proofs.Numbers.{one-name, each-number}
use Rattle.schema_names.proofs.Edges.{below-forth, below-back}
use Rattle.schema_explicit_attributes.specs.declared.own_attributes.Meant.TheVariants.{All, Explicit}
use Rattle.schema_explicit_attributes.specs.Supertypes.{AreAbove}
use Rattle.schema_faults.specs.steps.Checks.{IsFirstUnmet}
use Rattle.schema_explicit_attributes.specs.steps.Owned.{has_meant, HasMeant}
use Rattle.schema_faults.specs.steps.Kinds.{is_kind, is_inherited_at, is_inherited, is_inverted_at, is_inverted}
use Rattle.schema_explicit_attributes.specs.Supertypes.{is_or_leads}
use Rattle.schema_explicit_attributes.proofs.Having.{right-holds, has-none, has-forth, has-back}

both : (p q : Bool) → (p && q) ≡ true → (p ≡ true) × (q ≡ true)
both true q e = (refl, e)
both false q e = absurd (cc)

both-so : (p q : Bool) → p ≡ true → q ≡ true → (p && q) ≡ true
both-so true q e f = f
both-so false q e f = absurd (cc)

attribute-forth : (s : Schema) (q a : Name) → HasMeant s All q a → HasAttribute s q a
attribute-forth s q a (p, kind, e, at, among) = (p, (kind, (e, at, among)))

attribute-back : (s : Schema) (q a : Name) → HasAttribute s q a → HasMeant s All q a
attribute-back s q a (p, (kind, (e, at, among))) = (p, kind, e, at, among)

explicit-forth : (s : Schema) (q a : Name) → HasMeant s Explicit q a → HasExplicit s q a
explicit-forth s q a (p, kind, e, at, among) = (p, kind, (e, at, among))

explicit-back : (s : Schema) (q a : Name) → HasExplicit s q a → HasMeant s Explicit q a
explicit-back s q a (p, kind, (e, at, among)) = (p, kind, e, at, among)

module _ (s : Schema) (t : Graph) (h : AreAbove s t) where
  kind-forth : (n q : Name) (j : ℕ) → HasNumber s q j → is_kind s t j n ≡ true → IsKindOf s n q
  kind-forth n q j there r = by (number_of s n) refl r
    where
      at : (i : ℕ) → HasNumber s n i → (eqb i j ≡ true) ⊎ (has (next t i) j ≡ true) → IsKindOf s n q
      at i here (inl e) =
          let same : i ≡ j = grind (arith, nat_tests) in
          inl (one-name s n q j (subst (HasNumber s n) same here) there)
      at i here (inr step) =
          let (m, l, below) = below-forth s h.graph h.drawn n i j here ((h.closed.reached i j).0 step) in
          inr (subst (IsBelow s n) (one-name s m q j l there) below)

      by : (o : Option ℕ) → number_of s n ≡ o → is_or_leads t o j ≡ true → IsKindOf s n q
      by None e k = absurd (cc)
      by (Some i) e k = at i e (either (eqb i j) (has (next t i) j) k)

  kind-back : (n q : Name) (j : ℕ) → HasNumber s q j → IsKindOf s n q → is_kind s t j n ≡ true
  kind-back n q j there (inl same) =
      let here : HasNumber s n j = subst (λ x. HasNumber s x j) (sym same) there in
      let itself : eqb j j ≡ true = grind (arith, nat_tests) in
      subst (λ o. is_or_leads t o j ≡ true) (sym here) (left-holds (eqb j j) (has (next t j) j) itself)
  kind-back n q j there (inr below) =
      let (r, (x, is, m)) = first-step (IsSubtypeOf s) n q below in
      let (i, here) = each-number 0 s.declarations n (entity x) is in
      subst (λ o. is_or_leads t o j ≡ true) (sym here)
      (right-holds (eqb i j) (has (next t i) j)
      ((h.closed.reached i j).1 (below-back s h.graph h.drawn n q i j here there below)))

  any-forth : (ps : List Name) (q : Name) (j : ℕ) → HasNumber s q j → list_any (is_kind s t j) ps ≡ true
      → OneOf (λ p. IsKindOf s p q) ps
  any-forth [] q j there r = absurd (cc)
  any-forth (p ∷ ps) q j there r =
      by (either (is_kind s t j p) (list_any (is_kind s t j) ps) r) (any-forth ps q j there)
    where
      by : (is_kind s t j p ≡ true) ⊎ (list_any (is_kind s t j) ps ≡ true)
          → (list_any (is_kind s t j) ps ≡ true → OneOf (λ n. IsKindOf s n q) ps) → OneOf (λ n. IsKindOf s n q) (p ∷ ps)
      by (inl e) more = inl (kind-forth p q j there e)
      by (inr e) more = inr (more e)

  any-back : (ps : List Name) (q : Name) (j : ℕ) → HasNumber s q j → OneOf (λ p. IsKindOf s p q) ps
      → list_any (is_kind s t j) ps ≡ true
  any-back [] q j there m = elim m [ ]
  any-back (p ∷ ps) q j there (inl k) =
      left-holds (is_kind s t j p) (list_any (is_kind s t j) ps) (kind-back p q j there k)
  any-back (p ∷ ps) q j there (inr m) =
      right-holds (is_kind s t j p) (list_any (is_kind s t j) ps) (any-back ps q j there m)

  module _ (ps : List Name) (q a : Name) where
    inherited-forth : is_inherited s t ps q a ≡ true → IsMet s (inherited ps q a)
    inherited-forth r = by (number_of s q) refl r
      where
        by : (o : Option ℕ) → number_of s q ≡ o → is_inherited_at s t ps a o ≡ true → IsMet s (inherited ps q a)
        by None e k = absurd (cc)
        by (Some j) e k =
            let (x, y) = both (list_any (is_kind s t j) ps) (has_meant s t All a j) k in
            (any-forth ps q j e x, attribute-forth s q a (has-forth s All a t h q j e y))

    inherited-back : IsMet s (inherited ps q a) → is_inherited s t ps q a ≡ true
    inherited-back (m, k) = by (number_of s q) refl
      where
        by : (o : Option ℕ) → number_of s q ≡ o → is_inherited s t ps q a ≡ true
        by None e = absurd (has-none s All a q e (attribute-back s q a k))
        by (Some j) e =
            subst (λ o. is_inherited_at s t ps a o ≡ true) (sym e)
            (both-so (list_any (is_kind s t j) ps) (has_meant s t All a j) (any-back ps q j e m)
            (has-back s All a t h q j e (attribute-back s q a k)))

    -- a redeclared attribute
    pub redeclared-met : IsEntity s q → is_inherited s t ps q a ≡ true
        → Every (IsMet s) (demands_of_attribute ps (redeclared q a))
    redeclared-met met r = (met, (inherited-forth r, tt))

    pub redeclared-unmet : IsEntity s q → is_inherited s t ps q a ≡ false
        → IsFirstUnmet s (demands_of_attribute ps (redeclared q a)) a
    redeclared-unmet met r =
        (inherited ps q a, inr ((λ k. k met), inl ((λ k. let e = inherited-back k in absurd (cc)), refl)), refl)

  module _ (q a : Name) where
    inverted-forth : is_inverted s t q a ≡ true → HasExplicit s q a
    inverted-forth r = by (number_of s q) refl r
      where
        by : (o : Option ℕ) → number_of s q ≡ o → is_inverted_at s t a o ≡ true → HasExplicit s q a
        by None e k = absurd (cc)
        by (Some j) e k = explicit-forth s q a (has-forth s Explicit a t h q j e k)

    inverted-back : HasExplicit s q a → is_inverted s t q a ≡ true
    inverted-back k = by (number_of s q) refl
      where
        by : (o : Option ℕ) → number_of s q ≡ o → is_inverted s t q a ≡ true
        by None e = absurd (has-none s Explicit a q e (explicit-back s q a k))
        by (Some j) e =
            subst (λ o. is_inverted_at s t a o ≡ true) (sym e)
            (has-back s Explicit a t h q j e (explicit-back s q a k))

    -- the attribute that an inverse inverts
    pub inverted-met : is_inverted s t q a ≡ true → Every (IsMet s) (inverted q a ∷ [])
    inverted-met r = (inverted-forth r, tt)

    pub inverted-unmet : is_inverted s t q a ≡ false → IsFirstUnmet s (inverted q a ∷ []) a
    inverted-unmet r = (inverted q a, inl ((λ k. let e = inverted-back k in absurd (cc)), refl), refl)
