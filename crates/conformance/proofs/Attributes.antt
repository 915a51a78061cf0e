-- Records with as many parameters as attributes have a value for each attribute of their entities.
use Rattle.std.specs.Prelude.{◌≡◌, ℕ, suc, ◌+◌, Bool, true, false, cond, List, [], ◌∷◌, length, map, flat_map, Option, Some, None, ◌↔◌}
use Rattle.std.specs.List.{filter, list_all}
use Rattle.std.proofs.Common.{refl, sym, ◌∙◌, ap, subst, eqb-true, arith}
use Rattle.std.proofs.lemmas.Bool.{and_parts}
use Rattle.std.proofs.lemmas.List.{length-append}
use Rattle.step_structures.specs.Trees as trees
use Rattle.step_structures.specs.Trees.{Trees, Record, Form, internal, external, ExchangeRow}
use Rattle.express_syntax.specs.Schemas.{Schema, Declaration, type, entity, skipped, Entity}
use Rattle.schema_semantics.specs.Names.{Name, Among, declaration_of, entities, explicit_names, IsEntityAt, DeclaresExplicit}
use Rattle.schema_semantics.specs.Attributes.{Place, own_places, IsPlaces}
use Rattle.schema_semantics.specs.Faults.{IsResolved}
use Rattle.schema_semantics.proofs.Lists.{among-map, among-filter, from-filter, from-map, among-flat, from-flat}
use Rattle.schema_semantics.proofs.Supertypes.{entity-name}
use Rattle.schema_semantics.proofs.Placed.{explicit-have-places}
use Rattle.schema_semantics.proofs.Climbing.{places-are-explicit}
use Rattle.schema_semantics.proofs.Recursion.{to-any, from-any}
use Rattle.conformance.specs.Bases.{Domain}
use Rattle.conformance.specs.ParameterFits.{entity_names, is_listed, is_entity, count}
use Rattle.conformance.specs.Entities.{Entities, AreEntities, own_in, own_places_of, named_entity, records, parameters, joined_trees, types_of, places_of, unknown_entities, has_count, wrong_counts}
use Rattle.conformance.specs.Populations.{Slot, slots_of, instance_of}
use Rattle.conformance.proofs.Declared.{entity_at}
use Rattle.conformance.proofs.Targets.{none_fails}

one_less : (m n : ℕ) → suc m ≡ suc n → m ≡ n
one_less m n e = cc

count_joined : (xs ys : Trees) → count (joined_trees xs ys) ≡ count xs + count ys
count_joined trees.none ys = omega (arith)
count_joined (trees.one x xs) ys = let less = count_joined xs ys in omega (arith, less)

nothing_more : (n : ℕ) → n + 0 ≡ n
nothing_more n = omega (arith)

holds : (b : Bool) → ◌≡◌ {A = ℕ} (cond b 0 1) 0 → b ≡ true
holds true e = refl
holds false e = absurd (cc)

module _ (s : Schema) (d : Domain) (en : Entities) where
  slots_places : (types : List Name) (ps : List Place) (xs : Trees) → count xs ≡ length ps
      → map (λ (x : Slot). x.place) (slots_of s d en types ps xs) ≡ ps
  slots_places types [] xs e = refl
  slots_places types (p ∷ ps) trees.none e = absurd (cc)
  slots_places types (p ∷ ps) (trees.one x xs) e =
      ap (λ qs. p ∷ qs) (slots_places types ps xs (one_less (count xs) (length ps) e))

  parts_count : (rs : List Record) → list_all (λ r. has_count s en (own_places_of s (named_entity r)) r) rs ≡ true
      → count (parameters rs) ≡ length (flat_map (λ r. own_places_of s (named_entity r)) rs)
  parts_count [] h = refl
  parts_count (r ∷ rs) h =
      let own = own_places_of s (named_entity r) in
      let parts = and_parts (has_count s en own r) _ h in
      count_joined r.values (parameters rs)
      ∙ ap (λ n. n + count (parameters rs)) (eqb-true (count r.values) (length own) parts.0)
      ∙ ap (λ n. length own + n) (parts_count rs parts.1)
      ∙ sym (length-append own (flat_map (λ x. own_places_of s (named_entity x)) rs))

  counted : (f : Form) → wrong_counts s en f ≡ 0 → count (parameters (records f)) ≡ length (places_of s en f)
  counted (internal r) e =
      count_joined r.values trees.none ∙ nothing_more (count r.values)
      ∙ eqb-true (count r.values) (length (en.places (named_entity r)))
      (holds (has_count s en (en.places (named_entity r)) r) e)
  counted (external rs) e =
      parts_count rs (none_fails (λ r. has_count s en (own_places_of s (named_entity r)) r) rs e)

  module _ (r : IsResolved s) (are : AreEntities s en) (e a : Name) where
    declared_entity : DeclaresExplicit s e a → Among e (entity_names s)
    declared_entity (x, at, m) =
        let known = entity-name s e x at in
        subst (λ n. Among n (entity_names s)) known.1 (among-map (λ (y : Entity). y.name) x (entities s) known.0)

    of_entity : (n : Name) → Among n (entity_names s)
        → Among (e, a) (en.places n) ↔ (Among e (filter (en.is_kind_of n) (entity_names s)) × DeclaresExplicit s e a)
    of_entity n m =
        let places : IsPlaces s n (en.places n) = (entity_at s r n m, en.places, are.places, refl) in (
          (λ h. let found = places-are-explicit s n (en.places n) e a r places h in (
            among-filter (en.is_kind_of n) e (entity_names s) (declared_entity found.1) ((are.kinds n e).1 found.0),
            found.1,
          )),
          (λ h. explicit-have-places s n (en.places n) e a places
              ((are.kinds n e).0 (from-filter (en.is_kind_of n) e (entity_names s) h.0)) h.1),
        )

    own_declared : (n : Name) (o : Option Declaration) → declaration_of s.declarations n ≡ o → Among (e, a) (own_in o)
        → (n ≡ e) × DeclaresExplicit s e a
    own_declared n None at m = elim m [ ]
    own_declared n (Some (type t)) at m = elim m [ ]
    own_declared n (Some (skipped x)) at m = elim m [ ]
    own_declared n (Some (entity x)) at m =
        let from = from-map (λ (b : Name). (x.name, b)) (explicit_names x) (e, a) m in
        let same : n ≡ e = sym (entity-name s n x at).1 ∙ ap (λ (p : Place). p.0) from.2 in (
          same,
          (
            x,
            subst (λ q. IsEntityAt s q x) same at,
            subst (λ b. Among b (explicit_names x)) (ap (λ (p : Place). p.1) from.2) from.1,
          ),
        )

    own_place : (n : Name) → n ≡ e → DeclaresExplicit s e a → Among (e, a) (own_places_of s n)
    own_place n same (x, at, m) =
        let known = entity-name s e x at in
        subst (λ q. Among (e, a) (own_places_of s q)) (sym same)
        (subst (λ o. Among (e, a) (own_in o)) (sym at)
        (subst (λ q. Among (q, a) (own_places x)) known.1
        (among-map (λ (b : Name). (x.name, b)) a (explicit_names x) m)))

    of_parts : (rs : List Record) → Among (e, a) (flat_map (λ r. own_places_of s (named_entity r)) rs)
        ↔ (Among e (filter (λ n. is_listed n (map named_entity rs)) (entity_names s)) × DeclaresExplicit s e a)
    of_parts rs = (
      (λ h. let from = from-flat (λ r. own_places_of s (named_entity r)) (e, a) rs h in
          let said = own_declared (named_entity from.0) _ refl from.2 in (
            among-filter (λ n. is_listed n (map named_entity rs)) e (entity_names s) (declared_entity said.1)
                (to-any e (map named_entity rs) (subst (λ n. Among n (map named_entity rs)) said.0
                (among-map named_entity from.0 rs from.1))),
            said.1,
          )),
      (λ h. let from = from-map named_entity rs e (from-any e (map named_entity rs)
          (from-filter (λ n. is_listed n (map named_entity rs)) e (entity_names s) h.0)) in
          among-flat (λ r. own_places_of s (named_entity r)) from.0 (e, a) rs from.1
          (own_place (named_entity from.0) from.2 h.1)),
    )

    of_form : (f : Form) → unknown_entities s en f ≡ 0
        → Among (e, a) (places_of s en f) ↔ (Among e (types_of s en f) × DeclaresExplicit s e a)
    of_form (internal x) known =
        let all = none_fails (λ (r : Record). is_entity s (named_entity r)) (x ∷ []) known in
        of_entity (named_entity x)
        (from-any (named_entity x) (entity_names s) (and_parts (is_entity s (named_entity x)) true all).0)
    of_form (external rs) known = of_parts rs

  pub attributes_of : IsResolved s → AreEntities s en → (k : ℕ) (r : ExchangeRow) → unknown_entities s en r.form ≡ 0
      → wrong_counts s en r.form ≡ 0 → (e a : Name)
      → Among (e, a) (map (λ (x : Slot). x.place) (instance_of s d en k r).slots)
      ↔ (Among e (instance_of s d en k r).types × DeclaresExplicit s e a)
  attributes_of resolved are k r known counts e a =
      let same = slots_places (types_of s en r.form) (places_of s en r.form) (parameters (records r.form))
      (counted r.form counts) in
      let each = of_form resolved are e a r.form known in
      ((λ h. each.0 (subst (Among (e, a)) same h)), (λ h. subst (Among (e, a)) (sym same) (each.1 h)))
