-- Uniqueness rules, where names are resolved.
use Rattle.std.specs.Prelude.{◌≡◌, ℕ, ◌+◌, ◌<◌, Bool, true, false, not, ◌||◌, List, [], ◌∷◌, ◌++◌, map, length, get_or, take, ◌↔◌, IsTrue}
use Rattle.std.proofs.Common.{refl, ap, sym, subst, ◌∙◌, arith}
use Rattle.std.proofs.lemmas.List.{take_more, map-append, length-take, length-map}
use Rattle.express_syntax.specs.Schemas.{Schema, entity, Entity, Attribute, Unique}
use Rattle.schema_semantics.specs.declared.unchecked.Reason.{Reason}
use Rattle.schema_semantics.specs.declared.unchecked.Reason.TheVariants as reasons
use Rattle.schema_semantics.specs.Names.{Name, OneOf}
use Rattle.schema_semantics.specs.Faults.{IsResolved}
use Rattle.schema_semantics.specs.Attributes.{Place}
use Rattle.schema_semantics.specs.Parts.{label_of, UniqueHasReason}
use Rattle.schema_names.specs.Numbers.{IsAt}
use Rattle.schema_attribute_references.specs.declared.unique_rule_names.Naming.{Naming}
use Rattle.schema_attribute_references.specs.steps.Naming.{IsNaming}
use Rattle.conformance.specs.Rules.{UniquenessStatement, statements_from, NamesPlace}
use Rattle.schema_constraints.specs.declared.uniques.UniqueRule.{UniqueRule}
use Rattle.schema_constraints.specs.RuleViews.{label_seen}
use Rattle.schema_constraints.specs.steps.Making.{Adds, statement_of, ArePlacesOf, IsUnique}
use Rattle.schema_constraints.proofs.Turns.{adds-joined}
use Rattle.schema_constraints.proofs.Inverting.{name-is, own-number, number-seen}
use Rattle.schema_constraints.proofs.Placing.{seen-places, places-within}

-- there is no reason exactly where neither is found
pub checked-is : (s : Schema) (e : Name) (xs : List Attribute) (t : Naming) → IsNaming s e xs t
    → IsTrue (not (t.is_other || t.is_not_one)) ↔ ((r : Reason) → UniqueHasReason s e xs r → ⊥)
checked-is s e xs t h = (forth t.is_other refl t.is_not_one refl, back t.is_other refl t.is_not_one refl)
  where
    none : t.is_other ≡ false → t.is_not_one ≡ false → (r : Reason) → UniqueHasReason s e xs r → ⊥
    none e f reasons.Skipped k = k
    none e f reasons.Profile k = let m = h.other.1 k in cc
    none e f reasons.Name k = let m = h.not_one.1 k in cc
    none e f reasons.Typeof k = k
    none e f reasons.Kind k = k
    none e f reasons.Leads k = k

    forth : (o : Bool) → t.is_other ≡ o → (n : Bool) → t.is_not_one ≡ n → IsTrue (not (o || n)) → (r : Reason)
        → UniqueHasReason s e xs r → ⊥
    forth true e n f k = absurd (cc)
    forth false e true f k = absurd (cc)
    forth false e false f k = none e f

    back : (o : Bool) → t.is_other ≡ o → (n : Bool) → t.is_not_one ≡ n
        → ((r : Reason) → UniqueHasReason s e xs r → ⊥) → IsTrue (not (o || n))
    back true e n f k = absurd (k reasons.Profile (h.other.0 e))
    back false e true f k = absurd (k reasons.Name (h.not_one.0 f))
    back false e false f k = refl

-- a row is that of a rule
pub is-unique : (s : Schema) → IsResolved s → (e : Entity) (n : ℕ) (x : Unique) (t : Naming) (u : UniqueRule)
    → IsAt s u.entity (entity e) → label_seen u.label ≡ label_of n x.label
    → u.is_checked ≡ not (t.is_other || t.is_not_one) → IsNaming s e.name x.attributes t
    → ArePlacesOf s (λ (p : Place). OneOf (λ (a : Attribute). NamesPlace s e.name a p) x.attributes) u.places.items
    → IsUnique s (statement_of e.name n x) u
is-unique s r e n x t u at labelled checked naming placed = record {
  seen = record {
    entity = name-is s r e.name u.entity (own-number s r u.entity e at);
    label = labelled;
    checked = subst (λ b. IsTrue b ↔ ((q : Reason) → UniqueHasReason s e.name x.attributes q → ⊥)) (sym checked)
        (checked-is s e.name x.attributes t naming);
    places = seen-places s (λ p. OneOf (λ a. NamesPlace s e.name a p) x.attributes) u.places.items placed;
  };
  numbered = record {
    entity = number-seen s r e.name u.entity (own-number s r u.entity e at);
    places = places-within s (λ p. OneOf (λ a. NamesPlace s e.name a p) x.attributes) u.places.items placed;
  };
}

-- the rules of an entity that come behind others
statements-joined : (e : Name) (n k : ℕ) (xs ys : List Unique) → k ≡ n + length xs
    → statements_from e n (xs ++ ys) ≡ statements_from e n xs ++ statements_from e k ys
statements-joined e n k [] ys is =
    let same : n ≡ k = omega (arith, is) in ap (λ m. statements_from e m ys) same
statements-joined e n k (x ∷ xs) ys is =
    let on : k ≡ n + 1 + length xs = omega (arith, is) in
    ap (λ zs. statement_of e n x ∷ zs) (statements-joined e (n + 1) k xs ys on)

module _ {T B : Type 0} (R : UniquenessStatement → B → Type 0) (seen : T → Unique) (e : Name) where
  pub adds-statement : (xs : List T) (i : ℕ) (x : T) (a b c : List B) → i < length xs → x ≡ get_or xs i x
      → Adds R (statements_from e 1 (map seen (take i xs))) a b → Adds R (statement_of e (i + 1) (seen x) ∷ []) b c
      → Adds R (statements_from e 1 (map seen (take (i + 1) xs))) a c
  adds-statement xs i x a b c lt at h k =
      subst (λ ys. Adds R ys a c) (sym next)
      (adds-joined R (statements_from e 1 (map seen (take i xs))) (statement_of e (i + 1) (seen x) ∷ []) a b c h k)
    where
      next : statements_from e 1 (map seen (take (i + 1) xs))
          ≡ statements_from e 1 (map seen (take i xs)) ++ statement_of e (i + 1) (seen x) ∷ []
      next =
          let long : length (map seen (take i xs)) ≡ i = grind (arith, length-map, length-take) in
          ap (λ ys. statements_from e 1 (map seen ys))
          (take_more xs i x lt ∙ ap (λ y. take i xs ++ y ∷ []) (sym at))
          ∙ ap (statements_from e 1) (map-append seen (take i xs) (x ∷ []))
          ∙ statements-joined e 1 (i + 1) (map seen (take i xs)) (seen x ∷ []) (omega (arith, long))
