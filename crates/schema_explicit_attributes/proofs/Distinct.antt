-- Where no name is declared twice in its scope, no place has two numbers.
use Rattle.std.specs.Prelude.{◌≡◌, ℕ, ◌+◌, List, [], ◌∷◌, ◌++◌, map, flat_map, Some, slice_get, ◌⊎◌}
use Rattle.std.proofs.Common.{refl, inl, inr, ap, sym, subst, zero, suc}
use Rattle.express_syntax.specs.Schemas.{Schema, Declaration, type, entity, skipped, Entity}
use Rattle.schema_semantics.specs.Names.{Name, Among, explicit_names, derived_names, inverse_names, attribute_names}
use Rattle.schema_semantics.specs.Faults.{Declared, declared, declared_from, in_scope, enumerated_items, StandsTwice}
use Rattle.schema_semantics.specs.Attributes.{Place, own_places}
use Rattle.schema_semantics.proofs.Lists.{among-left, among-right, among-either, among-map, AreFresh, are-fresh, fresh-right}
use Rattle.schema_explicit_attributes.specs.Places.{places_in, all_places}
use Rattle.schema_explicit_attributes.proofs.Repeats.{AreOne}

pub at-among : {A : Type 0} (xs : List A) (i : ℕ) (x : A) → slice_get xs i ≡ Some x → Among x xs
at-among [] i x h = absurd (cc)
at-among (y ∷ xs) zero x h = inl (cc)
at-among (y ∷ xs) (suc i) x h = inr (at-among xs i x h)

fresh-once-at : {A : Type 0} (xs : List A) → AreFresh xs → (a b : ℕ) (x : A) → slice_get xs a ≡ Some x
    → slice_get xs b ≡ Some x → a ≡ b
fresh-once-at [] h a b x e f = absurd (cc)
fresh-once-at (y ∷ xs) h zero zero x e f = refl
fresh-once-at (y ∷ xs) h zero (suc b) x e f =
    let same : y ≡ x = cc in absurd (h.0 (subst (λ z. Among z xs) (sym same) (at-among xs b x f)))
fresh-once-at (y ∷ xs) h (suc a) zero x e f =
    let same : y ≡ x = cc in absurd (h.0 (subst (λ z. Among z xs) (sym same) (at-among xs a x e)))
fresh-once-at (y ∷ xs) h (suc a) (suc b) x e f = ap suc (fresh-once-at xs h.1 a b x e f)

fresh-left : {A : Type 0} (xs ys : List A) → AreFresh (xs ++ ys) → AreFresh xs
fresh-left [] ys h = tt
fresh-left (x ∷ xs) ys h = ((λ m. h.0 (among-left x xs ys m)), fresh-left xs ys h.1)

fresh-joined : {A : Type 0} (xs ys : List A) → AreFresh xs → AreFresh ys
    → ((x : A) → Among x xs → Among x ys → ⊥) → AreFresh (xs ++ ys)
fresh-joined [] ys h k apart = k
fresh-joined {A} (x ∷ xs) ys h k apart =
    ((λ m. by (among-either x xs ys m)), fresh-joined xs ys h.1 k (λ z m n. apart z (inr m) n))
  where
    by : Among x xs ⊎ Among x ys → ⊥
    by (inl m) = h.0 m
    by (inr m) = apart x (inl refl) m

fresh-unmapped : {A B : Type 0} (f : A → B) (xs : List A) → AreFresh (map f xs) → AreFresh xs
fresh-unmapped f [] h = tt
fresh-unmapped f (x ∷ xs) h = ((λ m. h.0 (among-map f x xs m)), fresh-unmapped f xs h.1)

place_of : Name → Name → Place
place_of e n = (e, n)

second : (e m n : Name) → place_of e m ≡ place_of e n → m ≡ n
unfolding place_of
second e m n h = ap (λ (p : Place). p.1) h

in-placed : (e n : Name) (ns : List Name) → Among (place_of e n) (map (place_of e) ns) → Among n ns
in-placed e n [] h = elim h [ ]
in-placed e n (m ∷ ns) (inl h) = inl (second e m n h)
in-placed e n (m ∷ ns) (inr h) = inr (in-placed e n ns h)

fresh-placed : (e : Name) (ns : List Name) → AreFresh ns → AreFresh (map (place_of e) ns)
fresh-placed e [] h = tt
fresh-placed e (n ∷ ns) h = ((λ m. h.0 (in-placed e n ns m)), fresh-placed e ns h.1)

-- the entity of a place that an entity declares
of-entity : (e : Name) (ns : List Name) (p : Place) → Among p (map (place_of e) ns) → e ≡ p.0
unfolding place_of
of-entity e [] p h = elim h [ ]
of-entity e (n ∷ ns) p (inl h) = ap (λ (q : Place). q.0) h
of-entity e (n ∷ ns) p (inr h) = of-entity e ns p h

own-are : (e : Entity) → own_places e ≡ map (place_of e.name) (explicit_names e)
unfolding place_of
own-are e = refl

abbrev in_schema : Name → Declared
in_schema n = (0, n)

-- the entity of an explicit attribute is declared in the schema
later : (k : ℕ) (ds : List Declaration) (p : Place) → Among p (flat_map places_in ds)
    → Among (in_schema p.0) (declared_from k ds)
later k [] p h = elim h [ ]
later k (type t ∷ ds) p h =
    inr (among-right (0, p.0) (in_scope k (enumerated_items t.underlying)) (declared_from (k + 1) ds) (later (k + 1) ds p h))
later k (entity e ∷ ds) p h = by (among-either p (own_places e) (flat_map places_in ds) h) (later (k + 1) ds p)
  where
    by : Among p (own_places e) ⊎ Among p (flat_map places_in ds)
        → (Among p (flat_map places_in ds) → Among (in_schema p.0) (declared_from (k + 1) ds))
        → Among (in_schema p.0) (declared_from k (entity e ∷ ds))
    by (inl m) more =
        inl (ap in_schema (of-entity e.name (explicit_names e) p (subst (Among p) (own-are e) m)))
    by (inr m) more = inr (among-right (0, p.0) (in_scope k (attribute_names e)) (declared_from (k + 1) ds) (more m))
later k (skipped q ∷ ds) p h = later (k + 1) ds p h

fresh-own : (k : ℕ) (e : Entity) → AreFresh (in_scope k (attribute_names e)) → AreFresh (own_places e)
fresh-own k e h =
    subst AreFresh (sym (own-are e)) (fresh-placed e.name (explicit_names e)
    (fresh-left (explicit_names e) (derived_names e)
    (fresh-left (explicit_names e ++ derived_names e) (inverse_names e)
    (fresh-unmapped (λ (m : Name). (k, m)) (attribute_names e) h))))

fresh-places : (k : ℕ) (ds : List Declaration) → AreFresh (declared_from k ds) → AreFresh (flat_map places_in ds)
fresh-places k [] h = tt
fresh-places k (type t ∷ ds) h =
    fresh-places (k + 1) ds (fresh-right (in_scope k (enumerated_items t.underlying)) (declared_from (k + 1) ds) h.1)
fresh-places k (entity e ∷ ds) h =
    fresh-joined (own_places e) (flat_map places_in ds)
    (fresh-own k e (fresh-left (in_scope k (attribute_names e)) (declared_from (k + 1) ds) h.1))
    (fresh-places (k + 1) ds (fresh-right (in_scope k (attribute_names e)) (declared_from (k + 1) ds) h.1))
    (λ p own m. h.0 (among-right (in_schema e.name) (in_scope k (attribute_names e)) (declared_from (k + 1) ds)
    (subst (λ n. Among (in_schema n) (declared_from (k + 1) ds))
    (sym (of-entity e.name (explicit_names e) p (subst (Among p) (own-are e) own))) (later (k + 1) ds p m))))
fresh-places k (skipped q ∷ ds) h = fresh-places (k + 1) ds h

pub places-are-one : (s : Schema) → ((x : Declared) → StandsTwice (declared s) x → ⊥) → AreOne (all_places s)
places-are-one s h a b p e f =
    fresh-once-at (all_places s) (fresh-places 1 s.declarations (are-fresh (declared s) h)) a b p e f
