-- Each reference of a population that conforms names an instance.
use Rattle.std.specs.Prelude.{◌≡◌, ℕ, Bool, true, false, List, [], ◌∷◌, Option, Some, None}
use Rattle.std.specs.Option.{option_map}
use Rattle.std.proofs.Common.{refl, sym, subst, inl, inr}
use Rattle.step_values.specs.Values.{Value, leaf, reference, typed, sequence, bag, Values, none, more}
use Rattle.step_values.specs.References.{EachReference, EachReferenceOf}
use Rattle.express_syntax.specs.Schemas.{Schema, Attribute, own, redeclared, Explicit, DataType}
use Rattle.express_syntax.specs.Profile.{Every}
use Rattle.schema_semantics.specs.Names.{Name, Among, own_names, DeclaresExplicit}
use Rattle.schema_semantics.proofs.Lists.{among-map, among-flat, from-flat, every-at, every-of}
use Rattle.schema_semantics.proofs.Supertypes.{entity-name}
use Rattle.conformance.specs.Bases.{Base, Domain, base}
use Rattle.conformance.specs.Entities.{Entities, AreEntities, AreThose, DeclaresSo, is_derived, is_optional, data_types, declarations_by}
use Rattle.conformance.specs.Populations.{Slot, Instance, instance_at}
use Rattle.conformance.specs.Conforming.{ValueFits, Conforms, typing_of}
use Rattle.conformance.specs.Fits.{Fits, FitEach}
use Rattle.conformance.specs.RuleLaws.{names}
use Rattle.conformance.specs.MeaningLaws.{ConformingAreClosed}
use Rattle.conformance.proofs.Led.{at_name}

-- those of a list of which P holds
those_in : {A : Type 0} (P : A → Type 0) (x : A) (xs ys : List A) → AreThose P xs ys → Among x xs → P x → Among x ys
those_in P x [] ys h m p = elim m [ ]
those_in P x (z ∷ xs) ys (inl h) (inl e) p = subst (Among x) (sym h.2) (inl e)
those_in P x (z ∷ xs) ys (inl h) (inr m) p = subst (Among x) (sym h.2) (inr (those_in P x xs h.1 h.3 m p))
those_in P x (z ∷ xs) ys (inr h) (inl e) p = absurd (h.0 (subst P (sym e) p))
those_in P x (z ∷ xs) ys (inr h) (inr m) p = those_in P x xs ys h.1 m p

own_in : (a : Name) (xs : List Attribute) → Among a (own_names xs) → Among (own a) xs
own_in a [] m = elim m [ ]
own_in a (own n ∷ xs) (inl e) = inl (subst (λ k. own k ≡ own a) (sym e) refl)
own_in a (own n ∷ xs) (inr m) = inr (own_in a xs m)
own_in a (redeclared q n ∷ xs) m = inr (own_in a xs m)

-- what declares an explicit attribute
pub declares_so : (s : Schema) (en : Entities) → AreEntities s en → (e a : Name) → DeclaresExplicit s e a
    → (x : Explicit) × Among x (en.declarations e (e, a))
declares_so s en are e a (x, at, n) =
    let from = from-flat (λ (y : Explicit). own_names y.attributes) a x.explicits n in (
      from.0,
      those_in (DeclaresSo s x (e, a)) from.0 x.explicits (en.declarations e (e, a)) (are.declarations e x at (e, a))
          from.1 (inl ((entity-name s e x at).1, own_in a from.0.attributes from.2)),
    )

module _ (s : Schema) (d : Domain) (en : Entities) (are : AreEntities s en) (is : List Instance) where
  abbrev IsThere : ℕ → Type 0
  IsThere y = Among y (names is)

  is_there : (y : ℕ) (types : List Name) → typing_of is y ≡ Some types → IsThere y
  is_there y types e = by (instance_at is y) refl e
    where
      by : (o : Option Instance) → instance_at is y ≡ o → option_map (λ (i : Instance). i.types) o ≡ Some types
          → IsThere y
      by None q e = absurd (cc)
      by (Some x) q e =
          let known = at_name y is x q in
          subst IsThere known.1 (among-map (λ (i : Instance). i.name) x is known.0)

  mutual
    each_there : (b : Base) (v : Value) → Fits s d (typing_of is) b v → EachReference IsThere v
    each_there b (leaf a) h = tt
    each_there b (reference y) h = is_there y h.0 h.1
    each_there b (typed n v) h = each_there h.0 v h.2
    each_there b (sequence vs) h = all_there h.of.optional (base d h.of.element) vs h.each
    each_there b (bag vs) h = all_there h.of.optional (base d h.of.element) vs h.each

    all_there : (optional : Bool) (b : Base) (vs : Values) → FitEach s d (typing_of is) optional b vs
        → EachReferenceOf IsThere vs
    all_there optional b none h = tt
    all_there optional b (more v vs) ((inl e), h) =
        (subst (EachReference IsThere) (sym e.1) tt, all_there optional b vs h)
    all_there optional b (more v vs) ((inr f), h) = (each_there b v f, all_there optional b vs h)

  -- an explicit attribute has a data type
  has_type : (types : List Name) (e a : Name) → Among e types → DeclaresExplicit s e a
      → (k : DataType) × Among k (data_types s en types (e, a))
  has_type types e a m h =
      let so = declares_so s en are e a h in (
        so.0.data_type,
        among-map (λ (y : Explicit). y.data_type) so.0 (declarations_by s en types (e, a))
            (among-flat (λ (t : Name). en.declarations t (e, a)) e so.0 types m so.1),
      )

  value_there : (derived optional : Bool) (ks : List DataType) (v : Value) → ((k : DataType) × Among k ks)
      → ValueFits s d (typing_of is) derived optional ks v → EachReference IsThere v
  value_there true optional ks v some h = subst (EachReference IsThere) (sym h) tt
  value_there false optional ks v some (inl h) = subst (EachReference IsThere) (sym h.1) tt
  value_there false optional ks v some (inr h) =
      each_there (base d some.0) v (every-at (λ (k : DataType). Fits s d (typing_of is) (base d k) v) some.0 ks h some.1)

  slot_there : (i : Instance) → Conforms s d (typing_of is) en i → (x : Slot) → Among x i.slots
      → EachReference IsThere x.value
  slot_there i c x m =
      let place = (c.attributes x.place.0 x.place.1).0 (among-map (λ (y : Slot). y.place) x i.slots m) in
      value_there (is_derived s en i.types x.place) (is_optional s en i.types x.place)
      (data_types s en i.types x.place) x.value
      (has_type i.types x.place.0 x.place.1 place.0 place.1)
      (every-at (λ (y : Slot). ValueFits s d (typing_of is) (is_derived s en i.types y.place)
      (is_optional s en i.types y.place) (data_types s en i.types y.place) y.value) x i.slots c.slots m)

pub conforming_are_closed : ConformingAreClosed
conforming_are_closed s d en are is conforms =
    every-of (λ (i : Instance). Every (λ (x : Slot). EachReference (λ y. Among y (names is)) x.value) i.slots) is
    (λ i m. every-of (λ (x : Slot). EachReference (λ y. Among y (names is)) x.value) i.slots
    (λ x n. slot_there s d en are is i (every-at (Conforms s d (typing_of is) en) i is conforms m) x n))
