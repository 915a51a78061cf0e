-- Each attribute of an instance has a data type: one of its types declares it.
use Rattle.std.specs.Prelude.{◌≡◌, Bool, true, false, cond, List, [], ◌∷◌, map, Option, None, Some}
use Rattle.std.specs.List.{filter}
use Rattle.std.proofs.Common.{refl, sym, ap, subst, ◌∙◌, inl, inr}
use Rattle.std.proofs.lemmas.Bool.{and_parts}
use Rattle.step_structures.specs.Trees.{Record, Form, internal, external}
use Rattle.express_syntax.specs.Profile.{Every}
use Rattle.express_syntax.specs.Schemas.{Schema, Declaration, type, entity, skipped, Entity, Attribute, own, redeclared, Explicit}
use Rattle.schema_semantics.specs.Names.{Name, Among, entities, declaration_of, own_names, explicit_names, IsEntity, IsEntityAt, DeclaresExplicit}
use Rattle.schema_semantics.specs.Attributes.{Place}
use Rattle.schema_semantics.specs.Faults.{IsResolved}
use Rattle.schema_semantics.proofs.Lists.{among-map, among-flat, from-flat, every-of}
use Rattle.schema_semantics.proofs.Supertypes.{entity-name}
use Rattle.schema_semantics.proofs.Recursion.{to-any}
use Rattle.schema_semantics.proofs.Climbing.{places-are-explicit}
use Rattle.conformance.specs.ParameterFits.{entity_names, is_listed, is_entity}
use Rattle.conformance.specs.Entities.{Entities, AreThose, DeclaresSo, AreEntities, own_in, own_places_of, named_entity, types_of, places_of, declarations_by, data_types}
use Rattle.population_findings.specs.steps.Rows.{HasTypes}
use Rattle.population_findings.proofs.Naming.{no-entity}

-- what is left of a list has each of which P holds
left-of : {A : Type 0} (P : A → Type 0) (x : A) (xs ys : List A) → AreThose P xs ys → Among x xs → P x → Among x ys
left-of P x [] ys h m p = elim m [ ]
left-of P x (y ∷ xs) ys (inl (q, zs, is, more)) (inl same) p = subst (Among x) (sym is) (inl same)
left-of P x (y ∷ xs) ys (inl (q, zs, is, more)) (inr m) p =
    subst (Among x) (sym is) (inr (left-of P x xs zs more m p))
left-of P x (y ∷ xs) ys (inr (free, more)) (inl same) p = absurd (free (subst P (sym same) p))
left-of P x (y ∷ xs) ys (inr (free, more)) (inr m) p = left-of P x xs ys more m p

passing : {A : Type 0} (test : A → Bool) (x : A) (xs : List A) → Among x xs → test x ≡ true → Among x (filter test xs)
passing test x [] m h = m
passing test x (y ∷ ys) m h = by (test y) refl m (λ k. passing test x ys k h)
  where
    by : (b : Bool) → test y ≡ b → Among x (y ∷ ys) → (Among x ys → Among x (filter test ys))
        → Among x (cond b (y ∷ filter test ys) (filter test ys))
    by true e (inl same) more = inl same
    by true e (inr k) more = inr (more k)
    by false e (inl same) more = let passes = ap test same in absurd (cc)
    by false e (inr k) more = more k

own-among : (a : Name) (xs : List Attribute) → Among a (own_names xs) → Among (own a) xs
own-among a [] h = elim h [ ]
own-among a (own n ∷ xs) (inl e) = inl (ap own e)
own-among a (own n ∷ xs) (inr m) = inr (own-among a xs m)
own-among a (redeclared q n ∷ xs) m = inr (own-among a xs m)

from-map : {A B : Type 0} (f : A → B) (y : B) (xs : List A) → Among y (map f xs) → (x : A) × Among x xs × (f x ≡ y)
from-map f y [] h = elim h [ ]
from-map f y (x ∷ xs) (inl e) = (x, inl refl, e)
from-map f y (x ∷ xs) (inr m) = let (z, there, e) = from-map f y xs m in (z, inr there, e)

-- the attribute has a data type by these types of its instance
abbrev pub HasType : Schema → Entities → List Name → Place → Type 0
HasType s en types p = data_types s en types p ≡ [] → ⊥

module _ (s : Schema) (en : Entities) (resolved : IsResolved s) (are : AreEntities s en) where
  -- one that is declared by one of the types
  has-type : (types : List Name) (p a : Name) → Among p types → DeclaresExplicit s p a → HasType s en types (p, a)
  has-type types p a m (e, at, named) none =
      let (x, there, own-name) = from-flat (λ (y : Explicit). own_names y.attributes) a e.explicits named in
      let so : DeclaresSo s e (p, a) x = inl ((entity-name s p e at).1, own-among a x.attributes own-name) in
      let by-p : Among x (en.declarations p (p, a)) = left-of (DeclaresSo s e (p, a)) x e.explicits
      (en.declarations p (p, a)) (are.declarations p e at (p, a)) there so in
      subst (Among x.data_type) none
      (among-map (λ (y : Explicit). y.data_type) x (declarations_by s en types (p, a))
      (among-flat (λ t. en.declarations t (p, a)) p x types m by-p))

  -- one that is declared by a type, if the types are the entities that pass a test
  of-passing : (test : Name → Bool) (p a : Name) → test p ≡ true → DeclaresExplicit s p a
      → HasType s en (filter test (entity_names s)) (p, a)
  of-passing test p a passes (e, at, named) =
      let known = entity-name s p e at in
      let listed : Among p (entity_names s) = subst (λ n. Among n (entity_names s)) known.1
      (among-map (λ (y : Entity). y.name) e (entities s) known.0) in
      has-type (filter test (entity_names s)) p a (passing test p (entity_names s) listed passes) (e, at, named)

  own-declared : (n p a : Name) (d : Option Declaration) → declaration_of s.declarations n ≡ d → Among (p, a) (own_in d)
      → (n ≡ p) × DeclaresExplicit s p a
  own-declared n p a None at m = elim m [ ]
  own-declared n p a (Some (type t)) at m = elim m [ ]
  own-declared n p a (Some (skipped x)) at m = elim m [ ]
  own-declared n p a (Some (entity e)) at m =
      let (b, there, same) = from-map (λ (c : Name). (e.name, c)) (p, a) (explicit_names e) m in
      let here : n ≡ p = sym (entity-name s n e at).1 ∙ ap (λ (q : Place). q.0) same in (
        here,
        (
          e,
          subst (λ q. IsEntityAt s q e) here at,
          subst (λ c. Among c (explicit_names e)) (ap (λ (q : Place). q.1) same) there,
        ),
      )

  unless : (n : Name) → is_entity s n ≡ true → (IsEntity s n → ⊥) → ⊥
  unless n is free = let none-is = no-entity s resolved n free in absurd (cc)

  -- of an instance whose keywords are entities
  place-typed : (f : Form) → HasTypes s f → (p a : Name) → Among (p, a) (places_of s en f)
      → HasType s en (types_of s en f) (p, a)
  place-typed (internal q) h p a m none =
      let n = named_entity q in
      unless n (and_parts (is_entity s n) true h).0 (λ is. (let (above, explicit) = places-are-explicit s n
      (en.places n) p a resolved (is, en.places, are.places, refl) m in
      of-passing (en.is_kind_of n) p a ((are.kinds n p).1 above) explicit none))
  place-typed (external qs) h p a m none =
      let (q, there, own-place) = from-flat (λ (x : Record). own_places_of s (named_entity x)) (p, a) qs m in
      let (same, explicit) = own-declared (named_entity q) p a (declaration_of s.declarations (named_entity q)) refl
      own-place in
      of-passing (λ e. is_listed e (map named_entity qs)) p a
      (to-any p (map named_entity qs)
      (subst (λ n. Among n (map named_entity qs)) same (among-map named_entity q qs there))) explicit none

  pub all-typed : (f : Form) → HasTypes s f → Every (HasType s en (types_of s en f)) (places_of s en f)
  all-typed f h =
      every-of (HasType s en (types_of s en f)) (places_of s en f) (λ (p, a) m. place-typed f h p a m)
