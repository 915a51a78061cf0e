-- An instance of a file has one value for each attribute.
use Rattle.std.specs.Prelude.{◌≡◌, ◌||◌, ℕ, suc, ◌+◌, Bool, true, false, List, [], ◌∷◌, ◌++◌, map, flat_map, length, filter, not, cond, bytes_eq, ◌⊎◌}
use Rattle.std.specs.List.{IsDistinct, AllByRecursion, list_any}
use Rattle.std.proofs.Common.{refl, ap, sym, subst, ◌∙◌, inl, inr}
use Rattle.std.proofs.lemmas.Map.Keys.{IsDistinct-cons, IsDistinct-head, IsDistinct-tail}
use Rattle.std.proofs.lemmas.Slice.Eq.{bytes_eq-Decides}
use Rattle.step_structures.specs.Trees as trees
use Rattle.step_structures.specs.Trees.{Trees, Record, Form, internal, external, ExchangeRow, Section, File, rows_of}
use Rattle.express_syntax.specs.Schemas.{Schema, Declaration, type, entity, skipped, Entity}
use Rattle.express_syntax.specs.Profile.{Every}
use Rattle.schema_semantics.specs.Names.{Name, Among, entities, explicit_names, derived_names, inverse_names, attribute_names, IsEntityAt}
use Rattle.schema_semantics.specs.Faults.{IsResolved, declared, declared_from, in_scope, enumerated_items}
use Rattle.schema_semantics.specs.Attributes.{Place, same_place}
use Rattle.schema_semantics.proofs.Bools.{is-false}
use Rattle.schema_semantics.proofs.Lists.{AreFresh, are-fresh, fresh-right, among-left, among-either, among-map, from-flat}
use Rattle.schema_semantics.proofs.Placed.{is-same, places-stand-once}
use Rattle.schema_semantics.proofs.Recursion.{declared-entity}
use Rattle.schema_semantics.proofs.Supertypes.{stands, entity-name, found}
use Rattle.conformance.specs.Bases.{Domain}
use Rattle.conformance.specs.ParameterFits.{entity_names, is_listed, is_entity}
use Rattle.conformance.specs.Entities.{Entities, AreEntities, records, parameters, named_entity, own_in, own_places_of, types_of, places_of, unknown_entities}
use Rattle.conformance.specs.Populations.{Slot, Instance, slots_of, instance_of, instances_from}
use Rattle.conformance.specs.MeaningImages.{HasPlacesOnce}
use Rattle.conformance.specs.MeaningLaws.{HasDistinctEntities, FilesHavePlacesOnce}

-- lists in which nothing stands twice
nil_once : {A : Type 0} (same : A → A → Bool) → IsDistinct same []
unfolding IsDistinct
nil_once same = tt

module _ (P : Place → Type 0) where
  all_in : (xs : List Place) → ((p : Place) → Among p xs → P p) → AllByRecursion P xs
  all_in [] f = tt
  all_in (x ∷ xs) f = (f x (inl refl), all_in xs (λ p m. f p (inr m)))

  in_all : (xs : List Place) → AllByRecursion P xs → (p : Place) → Among p xs → P p
  in_all [] h p m = elim m [ ]
  in_all (x ∷ xs) h p (inl e) = subst P e h.0
  in_all (x ∷ xs) h p (inr m) = in_all xs h.1 p m

once_both : (xs ys : List Place) → IsDistinct same_place xs → IsDistinct same_place ys
    → ((p q : Place) → Among p xs → Among q ys → same_place p q ≡ false) → IsDistinct same_place (xs ++ ys)
once_both [] ys h k f = k
once_both (x ∷ xs) ys h k f =
    IsDistinct-cons same_place x (xs ++ ys)
    (all_in (λ q. same_place x q ≡ false) (xs ++ ys) (λ q m. by q (among-either q xs ys m)))
    (once_both xs ys (IsDistinct-tail same_place x xs h) k (λ p q m n. f p q (inr m) n))
  where
    by : (q : Place) → Among q xs ⊎ Among q ys → same_place x q ≡ false
    by q (inl m) = in_all (λ p. same_place x p ≡ false) xs (IsDistinct-head same_place x xs h) q m
    by q (inr m) = f x q (inl refl) m

-- an entity declares each explicit attribute once
fresh_left : {A : Type 0} (xs ys : List A) → AreFresh (xs ++ ys) → AreFresh xs
fresh_left [] ys h = tt
fresh_left (x ∷ xs) ys h = ((λ m. h.0 (among-left x xs ys m)), fresh_left xs ys h.1)

fresh_before : {A B : Type 0} (f : A → B) (xs : List A) → AreFresh (map f xs) → AreFresh xs
fresh_before f [] h = tt
fresh_before f (x ∷ xs) h = ((λ m. h.0 (among-map f x xs m)), fresh_before f xs h.1)

fresh_in : (k : ℕ) (ds : List Declaration) (e : Entity) → AreFresh (declared_from k ds) → Among (entity e) ds
    → AreFresh (attribute_names e)
fresh_in k [] e f m = elim m [ ]
fresh_in k (type t ∷ ds) e f (inl h) = absurd (cc)
fresh_in k (type t ∷ ds) e f (inr m) =
    fresh_in (k + 1) ds e (fresh-right (in_scope k (enumerated_items t.underlying)) (declared_from (k + 1) ds) f.1) m
fresh_in k (entity x ∷ ds) e f (inl h) =
    let same : x ≡ e = cc in
    subst (λ y. AreFresh (attribute_names y)) same
    (fresh_before (λ (m : Name). (k, m)) (attribute_names x)
    (fresh_left (in_scope k (attribute_names x)) (declared_from (k + 1) ds) f.1))
fresh_in k (entity x ∷ ds) e f (inr m) =
    fresh_in (k + 1) ds e (fresh-right (in_scope k (attribute_names x)) (declared_from (k + 1) ds) f.1) m
fresh_in k (skipped p ∷ ds) e f (inl h) = absurd (cc)
fresh_in k (skipped p ∷ ds) e f (inr m) = fresh_in (k + 1) ds e f m

named_once : (n : Name) (xs : List Name) → AreFresh xs → IsDistinct same_place (map (λ (m : Name). (n, m)) xs)
named_once n [] f = nil_once same_place
named_once n (x ∷ xs) f =
    IsDistinct-cons same_place (n, x) (map (λ (m : Name). (n, m)) xs)
    (all_in (λ q. same_place (n, x) q ≡ false) (map (λ (m : Name). (n, m)) xs) differ) (named_once n xs f.1)
  where
    from : (ys : List Name) (q : Place) → Among q (map (λ (m : Name). (n, m)) ys) → Among q.1 ys
    from [] q m = elim m [ ]
    from (y ∷ ys) q (inl e) = inl (ap (λ (p : Place). p.1) e)
    from (y ∷ ys) q (inr m) = inr (from ys q m)

    differ : (q : Place) → Among q (map (λ (m : Name). (n, m)) xs) → same_place (n, x) q ≡ false
    differ q m =
        is-false (same_place (n, x) q) (λ t. f.0 (subst (λ a. Among a xs)
        (sym (ap (λ (p : Place). p.1) (is-same (n, x) q t))) (from xs q m)))

module _ (s : Schema) (resolved : IsResolved s) where
  fresh : AreFresh (declared s)
  fresh = are-fresh (declared s) resolved.once

  any_among : (n : Name) (ns : List Name) → is_listed n ns ≡ true → Among n ns
  any_among n [] h = absurd (cc)
  any_among n (m ∷ ns) h = by (bytes_eq n m) refl h (any_among n ns)
    where
      by : (b : Bool) → bytes_eq n m ≡ b → (b || list_any (bytes_eq n) ns) ≡ true
          → (is_listed n ns ≡ true → Among n ns) → Among n (m ∷ ns)
      by true e h rest = inl (sym ((bytes_eq-Decides n m).0 e))
      by false e h rest = inr (rest h)

  -- a name that an entity has
  the_entity : (n : Name) → is_entity s n ≡ true → (e : Entity) × IsEntityAt s n e
  the_entity n h = by (entities s) (λ e m. m) (any_among n (entity_names s) h)
    where
      by : (es : List Entity) → ((e : Entity) → Among e es → Among e (entities s))
          → Among n (map (λ (e : Entity). e.name) es) → (e : Entity) × IsEntityAt s n e
      by [] f m = elim m [ ]
      by (e ∷ es) f (inl q) = (
        e,
        subst (λ k. IsEntityAt s k e) q
            (stands 1 s.declarations (entity e) e.name fresh (declared-entity s.declarations e (f e (inl refl))) refl),
      )
      by (e ∷ es) f (inr m) = by es (λ x k. f x (inr k)) m

  -- its own attributes
  own_once : (n : Name) → is_entity s n ≡ true → IsDistinct same_place (own_places_of s n)
  own_once n h =
      let known = the_entity n h in
      subst (λ o. IsDistinct same_place (own_in o)) (sym known.1)
      (named_once known.0.name (explicit_names known.0)
      (fresh_left (explicit_names known.0) (derived_names known.0)
      (fresh_left (explicit_names known.0 ++ derived_names known.0) (inverse_names known.0)
      (fresh_in 1 s.declarations known.0 fresh (found s.declarations n (entity known.0) known.1).0))))

  own_named : (n : Name) → is_entity s n ≡ true → (p : Place) → Among p (own_places_of s n) → p.0 ≡ n
  own_named n h p m =
      let known = the_entity n h in
      by known.0 (entity-name s n known.0 known.1).1 (explicit_names known.0)
      (subst (λ o. Among p (own_in o)) known.1 m)
    where
      by : (e : Entity) → e.name ≡ n → (xs : List Name) → Among p (map (λ (m : Name). (e.name, m)) xs) → p.0 ≡ n
      by e q [] m = elim m [ ]
      by e q (x ∷ xs) (inl k) = ap (λ (r : Place). r.0) (sym k) ∙ q
      by e q (x ∷ xs) (inr k) = by e q xs k

  -- those of several records
  records_once : (rs : List Record) → ((r : Record) → Among r rs → is_entity s (named_entity r) ≡ true)
      → IsDistinct bytes_eq (map named_entity rs)
      → IsDistinct same_place (flat_map (λ r. own_places_of s (named_entity r)) rs)
  records_once [] f d = nil_once same_place
  records_once (r ∷ rs) f d =
      once_both (own_places_of s (named_entity r)) (flat_map (λ r. own_places_of s (named_entity r)) rs)
      (own_once (named_entity r) (f r (inl refl)))
      (records_once rs (λ x m. f x (inr m)) (IsDistinct-tail bytes_eq (named_entity r) (map named_entity rs) d)) apart
    where
      other : (xs : List Record) (x : Record) → AllByRecursion (λ y. bytes_eq (named_entity r) y ≡ false) (map named_entity xs)
          → Among x xs → bytes_eq (named_entity r) (named_entity x) ≡ false
      other [] x h m = elim m [ ]
      other (y ∷ xs) x h (inl e) = subst (λ (k : Record). bytes_eq (named_entity r) (named_entity k) ≡ false) e h.0
      other (y ∷ xs) x h (inr m) = other xs x h.1 m

      apart : (p q : Place) → Among p (own_places_of s (named_entity r))
          → Among q (flat_map (λ r. own_places_of s (named_entity r)) rs) → same_place p q ≡ false
      apart p q m n =
          let at = from-flat (λ r. own_places_of s (named_entity r)) q rs n in
          let here = own_named (named_entity r) (f r (inl refl)) p m in
          let there = own_named (named_entity at.0) (f at.0 (inr at.1)) q at.2 in
          let differ = other rs at.0 (IsDistinct-head bytes_eq (named_entity r) (map named_entity rs) d) at.1 in
          is-false (same_place p q) (λ t.
          let same : named_entity r ≡ named_entity at.0 =
          sym here ∙ (ap (λ (k : Place). k.0) (is-same p q t) ∙ there) in
          unequal (named_entity r) (named_entity at.0) differ same)
        where
          unequal : (a b : Name) → bytes_eq a b ≡ false → a ≡ b → ⊥
          unequal a b e k = let yes : bytes_eq a b ≡ true = (bytes_eq-Decides a b).1 k in absurd (cc)

  none_unknown : {A : Type 0} (test : A → Bool) (xs : List A) → length (filter (λ x. not (test x)) xs) ≡ 0
      → (x : A) → Among x xs → test x ≡ true
  none_unknown test [] h x m = elim m [ ]
  none_unknown test (y ∷ xs) h x m = by (test y) refl h m (none_unknown test xs)
    where
      by : (b : Bool) → test y ≡ b
          → length (cond (not b) (y ∷ filter (λ x. not (test x)) xs) (filter (λ x. not (test x)) xs)) ≡ 0
          → Among x (y ∷ xs)
          → (length (filter (λ x. not (test x)) xs) ≡ 0 → (x : _) → Among x xs → test x ≡ true) → test x ≡ true
      by true e h (inl q) rest = subst (λ k. test k ≡ true) q e
      by true e h (inr k) rest = rest h x k
      by false e h m rest = absurd (cc)

  module _ (d : Domain) (en : Entities) (are : AreEntities s en) where
    form_once : (f : Form) → unknown_entities s en f ≡ 0 → IsDistinct bytes_eq (map named_entity (records f))
        → IsDistinct same_place (places_of s en f)
    form_once (internal r) h k =
        let known = the_entity (named_entity r)
        (none_unknown (λ (r : Record). is_entity s (named_entity r)) (r ∷ []) h r (inl refl)) in
        places-stand-once s (named_entity r) (en.places (named_entity r)) (known, en.places, are.places, refl)
    form_once (external rs) h k =
        records_once rs (none_unknown (λ (r : Record). is_entity s (named_entity r)) rs h) k

    front : (P : Place → Type 0) (types : List Name) (ps : List Place) (xs : Trees) → AllByRecursion P ps
        → AllByRecursion P (map (λ (y : Slot). y.place) (slots_of s d en types ps xs))
    front P types [] xs h = tt
    front P types (p ∷ ps) trees.none h = tt
    front P types (p ∷ ps) (trees.one x xs) h = (h.0, front P types ps xs h.1)

    slots_once : (types : List Name) (ps : List Place) (xs : Trees) → IsDistinct same_place ps
        → IsDistinct same_place (map (λ (y : Slot). y.place) (slots_of s d en types ps xs))
    slots_once types [] xs h = nil_once same_place
    slots_once types (p ∷ ps) trees.none h = nil_once same_place
    slots_once types (p ∷ ps) (trees.one x xs) h =
        IsDistinct-cons same_place p (map (λ (y : Slot). y.place) (slots_of s d en types ps xs))
        (front (λ q. same_place p q ≡ false) types ps xs (IsDistinct-head same_place p ps h))
        (slots_once types ps xs (IsDistinct-tail same_place p ps h))

    rows_once : (k : ℕ) (rs : List ExchangeRow) → Every (HasDistinctEntities s en) rs → (more : List Instance) → Every HasPlacesOnce more
        → Every HasPlacesOnce (map (instance_of s d en k) rs ++ more)
    rows_once k [] h more m = m
    rows_once k (r ∷ rs) h more m = (
      slots_once (types_of s en r.form) (places_of s en r.form) (parameters (records r.form))
          (form_once r.form h.0.0 h.0.1),
      rows_once k rs h.1 more m,
    )

    behind : (rs ts : List ExchangeRow) → Every (HasDistinctEntities s en) (rs ++ ts) → Every (HasDistinctEntities s en) rs × Every (HasDistinctEntities s en) ts
    behind [] ts h = (tt, h)
    behind (r ∷ rs) ts h = let rest = behind rs ts h.1 in ((h.0, rest.0), rest.1)

    sections_once : (k : ℕ) (xs : List Section) → Every (HasDistinctEntities s en) (rows_of xs)
        → Every HasPlacesOnce (instances_from s d en k xs)
    sections_once k [] h = tt
    sections_once k (x ∷ xs) h =
        let cut = behind x.rows (rows_of xs) h in
        rows_once k x.rows cut.0 (instances_from s d en (suc k) xs) (sections_once (suc k) xs cut.1)

pub files_have_places_once : FilesHavePlacesOnce
files_have_places_once s d en resolved are f whole = sections_once s resolved d en are 0 f.sections whole
