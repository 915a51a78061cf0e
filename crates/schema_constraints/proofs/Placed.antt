-- Explicit attributes by number.
use Rattle.std.specs.Prelude.{◌≡◌, ℕ, true, Option, None, Some, IsSome, ◌↔◌}
use Rattle.std.proofs.Common.{refl, ap, sym, subst, ◌∙◌}
use Rattle.graphs.specs.Graphs.{has}
use Rattle.express_syntax.specs.Schemas.{Schema, entity}
use Rattle.schema_semantics.specs.Names.{Name, Among, DeclaresExplicit, explicit_names}
use Rattle.schema_semantics.specs.Attributes.{Place, own_places}
use Rattle.schema_semantics.proofs.Lists.{among-flat, among-map}
use Rattle.schema_semantics.proofs.Supertypes.{entity-name}
use Rattle.schema_names.specs.Numbers.{HasNumber, IsAt}
use Rattle.schema_names.proofs.Numbers.{stands-at, each-number}
use Rattle.schema_explicit_attributes.specs.Places.{places_in, all_places}
use Rattle.schema_explicit_attributes.proofs.Distinct.{at-among}
use Rattle.schema_explicit_attributes.specs.steps.Origins.{IsNumberOf as IsNumberedBy}
use Rattle.schema_attributes.proofs.Rows.{among-at}
use Rattle.schema_redeclarations.specs.Uses.{HasPlace}
use Rattle.schema_redeclarations.specs.steps.Speaking.{at_most_one}
use Rattle.schema_redeclarations.proofs.OwnRows.{has-one, one-has}
use Rattle.schema_constraints.specs.steps.Making.{IsNumberOf}

-- what holds of the number of a place
pub number-of : (s : Schema) (p : Place) (o : Option ℕ) → ((q : ℕ) → (has (at_most_one o) q ≡ true) ↔ HasPlace s p q)
    → IsNumberOf s p o
number-of s p o h q = ((λ e. (h q).0 (there o e)), (λ at. back o ((h q).1 at)))
  where
    there : (o : Option ℕ) → o ≡ Some q → has (at_most_one o) q ≡ true
    there o e = subst (λ x. has (at_most_one x) q ≡ true) (sym e) (has-one q)

    back : (o : Option ℕ) → has (at_most_one o) q ≡ true → o ≡ Some q
    back None e = absurd (cc)
    back (Some x) e = ap Some (sym (one-has x q e))

-- an explicit attribute that is declared has a number
pub place-there : (s : Schema) (p a : Name) → DeclaresExplicit s p a → (q : ℕ) × HasPlace s (p, a) q
place-there s p a (e, at, m) =
    let (i, k) = each-number 0 s.declarations p (entity e) at in
    let here : IsAt s i (entity e) = sym (stands-at s p i k) ∙ at in
    among-at (all_places s) (p, a)
    (among-flat places_in (entity e) (p, a) s.declarations (at-among s.declarations i (entity e) here)
    (subst (λ n. Among (n, a) (own_places e)) (entity-name s p e at).1
    (among-map (λ (n : Name). (e.name, n)) a (explicit_names e) m)))

pub is-some : {A : Type 0} (o : Option A) (x : A) → o ≡ Some x → IsSome o
is-some None x e = absurd (cc)
is-some (Some y) x e = refl

-- where something is there, a number of it is answered
pub number-some : (s : Schema) (P : Name → Type 0) (p : Name) → P p → (o : Option ℕ) → IsNumberedBy s P o → IsSome o
number-some s P p h None never = absurd (never p h)
number-some s P p h (Some j) at = refl

pub number-is : (s : Schema) (P : Name → Type 0) (o : Option ℕ) (j : ℕ) → o ≡ Some j → IsNumberedBy s P o → (p : Name)
    × HasNumber s p j × P p
number-is s P None j e h = absurd (cc)
number-is s P (Some i) j e h = let same : i ≡ j = cc in subst (λ k. (p : Name) × HasNumber s p k × P p) same h
