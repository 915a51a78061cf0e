-- Which explicit attributes names in rules mean, by number.
use Rattle.std.specs.Prelude.{◌≡◌, ℕ, ◌<◌, List, [], ◌∷◌, ◌++◌, Option, None, Some, map, length, ◌⊎◌, ◌↔◌}
use Rattle.std.proofs.Common.{refl, inl, inr, ap, sym, subst, ◌∙◌}
use Rattle.std.proofs.lemmas.List.{append_assoc, append-nil}
use Rattle.std.proofs.lemmas.Option.{slice_get_within}
use Rattle.express_syntax.specs.Schemas.{Schema, Declaration, type, entity, skipped, Attribute}
use Rattle.express_syntax.specs.Profile.{Every}
use Rattle.schema_semantics.specs.Names.{Name, Among, OneOf, DeclaresExplicit, explicit_names}
use Rattle.schema_semantics.specs.Faults.{IsResolved, declared}
use Rattle.schema_semantics.specs.Attributes.{Place}
use Rattle.schema_semantics.specs.Ranks.{derived_name}
use Rattle.schema_semantics.proofs.Lists.{among-left, among-right, among-either, among-map, are-fresh, from-flat, every-of}
use Rattle.schema_semantics.proofs.Supertypes.{stands}
use Rattle.schema_names.specs.Numbers.{HasNumber}
use Rattle.schema_names.proofs.Numbers.{one-name}
use Rattle.schema_explicit_attributes.specs.Places.{places_in, all_places}
use Rattle.schema_explicit_attributes.proofs.Distinct.{at-among}
use Rattle.schema_redeclarations.specs.Uses.{HasPlace}
use Rattle.schema_redeclarations.specs.steps.Speaking.{at_most_one}
use Rattle.schema_redeclarations.proofs.Those.{one-left, one-right, one-either}
use Rattle.schema_attribute_references.specs.steps.Named.{AreNumbersOf}
use Rattle.conformance.specs.Rules.{MeansAttribute, NamesPlace}
use Rattle.schema_constraints.specs.RuleViews.{place_at, or_nowhere}
use Rattle.schema_constraints.specs.steps.Making.{IsNumberOf, AreEntities, IsDeclaredBy, ArePlacesOf, AddsPlaces}
use Rattle.schema_constraints.proofs.Placed.{place-there}
use Rattle.schema_constraints.proofs.Meaning.{means-name, means-entity}

-- the entity and the name of its own places
of-entity : (e : Name) (ns : List Name) (p : Place) → Among p (map (λ (n : Name). (e, n)) ns) → (e ≡ p.0) × Among p.1 ns
of-entity e [] p h = elim h [ ]
of-entity e (n ∷ ns) p (inl h) = (ap (λ (q : Place). q.0) h, inl (ap (λ (q : Place). q.1) h))
of-entity e (n ∷ ns) p (inr h) = let (same, m) = of-entity e ns p h in (same, inr m)

-- what has a number is declared
pub place-declared : (s : Schema) → IsResolved s → (p a : Name) (q : ℕ) → HasPlace s (p, a) q → DeclaresExplicit s p a
place-declared s r p a q at =
    let (d, m, n) = from-flat places_in (p, a) s.declarations (at-among (all_places s) q (p, a) at) in by d m n
  where
    by : (d : Declaration) → Among d s.declarations → Among (p, a) (places_in d) → DeclaresExplicit s p a
    by (type t) m n = elim n [ ]
    by (skipped t) m n = elim n [ ]
    by (entity e) m n =
        let (same, l) = of-entity e.name (explicit_names e) (p, a) n in
        (e, stands 1 s.declarations (entity e) p (are-fresh (declared s) r.once) m (ap Some same), l)

-- one of a list, or one more
pub one-more : (P : Attribute → Type 0) (xs : List Attribute) (y : Attribute)
    → OneOf P (xs ++ y ∷ []) ↔ (OneOf P xs ⊎ P y)
one-more P xs y = ((λ h. forth (one-either P xs (y ∷ []) h)), back)
  where
    forth : OneOf P xs ⊎ OneOf P (y ∷ []) → OneOf P xs ⊎ P y
    forth (inl h) = inl h
    forth (inr (inl h)) = inr h
    forth (inr (inr h)) = absurd h

    back : OneOf P xs ⊎ P y → OneOf P (xs ++ y ∷ [])
    back (inl h) = one-left P xs (y ∷ []) h
    back (inr h) = one-right P xs (y ∷ []) (inl h)

module _ (s : Schema) where
  pub places-alike : (P Q : Place → Type 0) → ((p : Place) → P p ↔ Q p) → (row : List ℕ) → ArePlacesOf s P row
      → ArePlacesOf s Q row
  places-alike P Q same row h = record {
    forth = λ q m. let (p, at, l) = h.forth q m in (p, at, (same p).0 l);
    back = λ p l. h.back p ((same p).1 l);
  }

  pub adds-alike : (P Q : Place → Type 0) → ((p : Place) → P p ↔ Q p) → (old new : List ℕ) → AddsPlaces s P old new
      → AddsPlaces s Q old new
  adds-alike P Q same old new (row, is, h) = (row, is, places-alike P Q same row h)

  pub adds-no-place : (P : Place → Type 0) → ((p : Place) → P p → ⊥) → (old : List ℕ) → AddsPlaces s P old old
  adds-no-place P none old = (
    [],
    sym (append-nil old),
    record {
      forth = λ q m. absurd m;
      back = λ p h. absurd (none p h);
    },
  )

  pub adds-places : (P Q R : Place → Type 0) → ((p : Place) → R p ↔ (P p ⊎ Q p)) → (a b c : List ℕ)
      → AddsPlaces s P a b → AddsPlaces s Q b c → AddsPlaces s R a c
  adds-places P Q R both a b c (row, is, h) (more, so, k) =
      (row ++ more, so ∙ ap (λ xs. xs ++ more) is ∙ append_assoc a row more, record { forth = forth; back = back })
    where
      forth : (q : ℕ) → Among q (row ++ more) → (p : Place) × HasPlace s p q × R p
      forth q m = by (among-either q row more m)
        where
          by : Among q row ⊎ Among q more → (p : Place) × HasPlace s p q × R p
          by (inl l) = let (p, at, f) = h.forth q l in (p, at, (both p).1 (inl f))
          by (inr l) = let (p, at, f) = k.forth q l in (p, at, (both p).1 (inr f))

      back : (p : Place) → R p → (q : ℕ) × HasPlace s p q × Among q (row ++ more)
      back p f = by ((both p).0 f)
        where
          by : P p ⊎ Q p → (q : ℕ) × HasPlace s p q × Among q (row ++ more)
          by (inl g) = let (q, at, l) = h.back p g in (q, at, among-left q row more l)
          by (inr g) = let (q, at, l) = k.back p g in (q, at, among-right q row more l)

  -- those of all
  pub whole-row : (P : Place → Type 0) (row : List ℕ) → AddsPlaces s P [] row → ArePlacesOf s P row
  whole-row P row (more, is, h) = subst (ArePlacesOf s P) (sym is) h

  module _ (r : IsResolved s) (a : Name) where
    -- of one entity
    pub one-declared : (p : Name) (i : ℕ) (o : Option ℕ) → HasNumber s p i → IsNumberOf s (p, a) o
        → ArePlacesOf s (IsDeclaredBy s a (i ∷ [])) (at_most_one o)
    one-declared p i o k h = by o refl
      where
        back : (o : Option ℕ) → ((q : ℕ) → (o ≡ Some q) ↔ HasPlace s (p, a) q) → (x : Place)
            → IsDeclaredBy s a (i ∷ []) x → (q : ℕ) × HasPlace s x q × Among q (at_most_one o)
        back o h x (same, declares, (j, l, inr m)) = absurd m
        back o h x (same, declares, (j, l, inl m)) =
            let name : x.0 ≡ p = one-name s x.0 p i (subst (HasNumber s x.0) (sym m) l) k in
            let is : (p, a) ≡ x = λ t. (sym name t, sym same t) in
            let (q, at) = place-there s x.0 x.1 declares in
            let there = (h q).1 (subst (λ (y : Place). HasPlace s y q) (sym is) at) in
            (q, at, subst (λ o. Among q (at_most_one o)) (sym there) (inl refl))

        by : (o' : Option ℕ) → o ≡ o' → ArePlacesOf s (IsDeclaredBy s a (i ∷ [])) (at_most_one o)
        by None e = subst (λ o. ArePlacesOf s (IsDeclaredBy s a (i ∷ [])) (at_most_one o)) (sym e)
            (record {
              forth = λ q m. absurd m;
              back = back None (subst (λ o. (q : ℕ) → (o ≡ Some q) ↔ HasPlace s (p, a) q) e h);
            })
        by (Some x) e =
            let here : HasPlace s (p, a) x = (h x).0 e in
            subst (λ o. ArePlacesOf s (IsDeclaredBy s a (i ∷ [])) (at_most_one o)) (sym e)
            (record {
              forth = λ q m. forth x here q m;
              back = back (Some x) (subst (λ o. (q : ℕ) → (o ≡ Some q) ↔ HasPlace s (p, a) q) e h);
            })
          where
            forth : (x : ℕ) → HasPlace s (p, a) x → (q : ℕ) → Among q (x ∷ []) → (y : Place) × HasPlace s y q
                × IsDeclaredBy s a (i ∷ []) y
            forth x here q (inl m) =
                ((p, a), subst (HasPlace s (p, a)) m here, (refl, place-declared s r p a x here, (i, k, inl refl)))
            forth x here q (inr m) = absurd m

    pub declared-joined : (is js : List ℕ) (p : Place) → IsDeclaredBy s a (is ++ js) p
        ↔ (IsDeclaredBy s a is p ⊎ IsDeclaredBy s a js p)
    declared-joined is js p = (
      (λ (same, declares, (i, k, m)). by same declares i k (among-either i is js m)),
      back,
    )
      where
        by : p.1 ≡ a → DeclaresExplicit s p.0 p.1 → (i : ℕ) → HasNumber s p.0 i → Among i is ⊎ Among i js
            → IsDeclaredBy s a is p ⊎ IsDeclaredBy s a js p
        by same declares i k (inl m) = inl (same, declares, (i, k, m))
        by same declares i k (inr m) = inr (same, declares, (i, k, m))

        back : IsDeclaredBy s a is p ⊎ IsDeclaredBy s a js p → IsDeclaredBy s a (is ++ js) p
        back (inl (same, declares, (i, k, m))) = (same, declares, (i, k, among-left i is js m))
        back (inr (same, declares, (i, k, m))) = (same, declares, (i, k, among-right i is js m))

  -- a name in a rule
  module _ (e : Name) (x : Attribute) (a : Name) (is : a ≡ derived_name x) (row : List ℕ)
      (are : AreNumbersOf s (λ p. MeansAttribute s e x p a) row) where
    pub named-entities : AreEntities s row
    named-entities i m = let (p, k, h) = are.forth i m in (p, means-entity s e x p a h, k)

    pub names-place : (p : Place) → IsDeclaredBy s a row p ↔ NamesPlace s e x p
    names-place p = (forth, back)
      where
        forth : IsDeclaredBy s a row p → NamesPlace s e x p
        forth (same, declares, (i, k, m)) =
            let (n, l, h) = are.forth i m in
            let name : n ≡ p.0 = one-name s n p.0 i l k in (
              subst (λ b. MeansAttribute s e x p.0 b) (sym same) (subst (λ y. MeansAttribute s e x y a) name h),
              declares,
            )

        back : NamesPlace s e x p → IsDeclaredBy s a row p
        back (h, declares) =
            let same : p.1 ≡ a = means-name s e x p.0 p.1 h ∙ sym is in
            let (i, k, m) = are.back p.0 (subst (λ b. MeansAttribute s e x p.0 b) same h) in
            (same, declares, (i, k, m))

  -- the places that a row of numbers shows
  shown : (p : Place) (q : ℕ) (row : List ℕ) → HasPlace s p q → Among q row → Among p (map (place_at s) row)
  shown p q row at m =
      subst (λ (o : Option Place). Among (or_nowhere o) (map (place_at s) row)) at (among-map (place_at s) q row m)

  unshown : (p : Place) (row : List ℕ) → Among p (map (place_at s) row) → (q : ℕ) × Among q row × (place_at s q ≡ p)
  unshown p [] m = absurd m
  unshown p (q ∷ row) (inl e) = (q, inl refl, e)
  unshown p (q ∷ row) (inr m) = let (x, l, e) = unshown p row m in (x, inr l, e)

  pub seen-places : (P : Place → Type 0) (row : List ℕ) → ArePlacesOf s P row → (p : Place)
      → Among p (map (place_at s) row) ↔ P p
  seen-places P row h p = (forth, back)
    where
      forth : Among p (map (place_at s) row) → P p
      forth m =
          let (q, l, e) = unshown p row m in
          let (x, at, f) = h.forth q l in
          let same : x ≡ p = sym (ap or_nowhere at) ∙ e in
          subst P same f

      back : P p → Among p (map (place_at s) row)
      back f = let (q, at, m) = h.back p f in shown p q row at m

  pub places-within : (P : Place → Type 0) (row : List ℕ) → ArePlacesOf s P row
      → Every (λ (q : ℕ). q < length (all_places s)) row
  places-within P row h =
      every-of (λ (q : ℕ). q < length (all_places s)) row
      (λ q m. (let (p, at, f) = h.forth q m in slice_get_within (all_places s) q p at))
