-- A uniqueness rule that is set aside, since its name means two attributes: it has both.
use Rattle.std.specs.Prelude.{◌≡◌, ◌≢◌, true, false, [], ◌∷◌, Some, None, codes, bytes_eq, ◌⊎◌}
use Rattle.std.proofs.Common.{refl, ap, inl, inr, sym, subst}
use Rattle.express_syntax.specs.Schemas.{Schema, Entity, own, entity, integer}
use Rattle.schema_semantics.specs.declared.unchecked.Reason.{Reason}
use Rattle.schema_semantics.specs.declared.unchecked.Reason.TheVariants as reasons
use Rattle.schema_semantics.specs.Names.{Name, Among, Declares}
use Rattle.schema_semantics.specs.Attributes.{Place}
use Rattle.schema_semantics.specs.Parts.{NamesAttribute, UniqueHasReason}
use Rattle.schema_semantics.proofs.Facts.{is-declarer}
use Rattle.schema_semantics.proofs.Geo.{bare, having}
use Rattle.conformance.specs.Rules.{UniqueRule, Rules, NamesPlace, IsUniqueRule}

abbrev A : Name
A = codes "A"

abbrev B : Name
B = codes "B"

abbrev C : Name
C = codes "C"

abbrev X : Name
X = codes "X"

-- ENTITY a; x : INTEGER; END_ENTITY; ENTITY b; x : INTEGER; END_ENTITY;
abbrev the_a : Entity
the_a = record (bare A) { explicits = having X integer ∷ [] }

abbrev the_b : Entity
the_b = record (bare B) { explicits = having X integer ∷ [] }

-- ENTITY c SUBTYPE OF (a, b); UNIQUE x; END_ENTITY;
abbrev the_c : Entity
the_c =
    record (bare C) {
      subtype_of = Some (A ∷ B ∷ []);
      uniques = Some (record { label = None; attributes = own X ∷ [] } ∷ []);
    }

abbrev two : Schema
two = record { name = codes "TWO"; version = None; declarations = entity the_a ∷ entity the_b ∷ entity the_c ∷ [] }

abbrev both : UniqueRule
both = record { entity = C; label = codes "?1"; is_checked = false; places = (A, X) ∷ (B, X) ∷ [] }

abbrev one_rule : Rules
one_rule = record { uniques = both ∷ []; inverses = [] }

names_a : NamesAttribute two C (own X) A X
names_a = (refl, (inr ([], (the_c, refl, inl refl)), (the_a, refl, inl refl)))

names_b : NamesAttribute two C (own X) B X
names_b = (refl, (inr ([], (the_c, refl, inr (inl refl))), (the_b, refl, inl refl)))

apart : A ≢ B
apart e = let differ : true ≡ false = ap (λ n. bytes_eq n A) e in absurd (cc)

two_named : (p : Place) → Among p both.places → NamesPlace two C (own X) p
two_named p (inl e) = subst (NamesPlace two C (own X)) e (names_a, (the_a, refl, inl refl))
two_named p (inr (inl e)) = subst (NamesPlace two C (own X)) e (names_b, (the_b, refl, inl refl))
two_named p (inr (inr h)) = elim h [ ]

abbrev place : Name → Name → Place
place q a = (q, a)

one_of_two : (p a : Name) → Among p (A ∷ B ∷ []) → X ≡ a → Among (p, a) both.places
one_of_two p a (inl e) f = inl (subst (λ q. place A X ≡ place q a) e (ap (place A) f))
one_of_two p a (inr (inl e)) f = inr (inl (subst (λ q. place B X ≡ place q a) e (ap (place B) f)))
one_of_two p a (inr (inr h)) f = elim h [ ]

named_two : (p : Place) → NamesPlace two C (own X) p → Among p both.places
named_two (p, a) h = one_of_two p a (is-declarer two p X (subst (Declares two p) (sym h.0.0) h.0.1.1)) h.0.0

only : {P : Type 0} → P ⊎ ⊥ → P
only (inl p) = p
only (inr n) = absurd n

unchecked : ((r : Reason) → UniqueHasReason two C (own X ∷ []) r → ⊥) → ⊥
unchecked f = f reasons.Name (inl (inr (A, B, X, names_a, names_b, apart)))

both_is : IsUniqueRule two (record { entity = C; label = codes "?1"; attributes = own X ∷ [] }) both
both_is = record {
  entity = refl;
  label = refl;
  checked = ((λ t. absurd (cc)), λ f. absurd (unchecked f));
  places = λ p. ((λ m. inl (two_named p m)), λ h. named_two p (only h));
}
