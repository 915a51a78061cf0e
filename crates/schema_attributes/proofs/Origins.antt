-- Which entity declares an attribute that is redeclared.
use Rattle.std.specs.Prelude.{◌≡◌, ℕ, Option, None, Some}
use Rattle.std.proofs.Common.{refl, sym, subst, ◌∙◌}
use Rattle.express_syntax.specs.declared.tree.Declaration.{Declaration as DeclarationValue}
use Rattle.express_syntax.specs.declared.tree.Declaration.TheVariants as declarations
use Rattle.express_syntax.specs.declared.tree.Entity.{Entity as EntityValue}
use Rattle.express_syntax.specs.Views.{declaration_of}
use Rattle.express_syntax.specs.Schemas.{Schema, Declaration, entity, Entity, own, redeclared}
use Rattle.schema_semantics.specs.Names.{Name, IsFirst, IsEntity, Declares}
use Rattle.schema_semantics.specs.Faults.{IsResolved}
use Rattle.schema_semantics.specs.Attributes.{IsOrigin, IsRedeclaration}
use Rattle.schema_semantics.proofs.Lists.{first-is-one, first-holds}
use Rattle.schema_semantics.proofs.Recursion.{make_line, solutions-are-one}
use Rattle.schema_names.specs.Numbers.{number_of, HasNumber, IsAt}
use Rattle.schema_names.proofs.Numbers.{stands-at, each-number}
use Rattle.schema_explicit_attributes.specs.steps.Origins.{IsNumberOf}
use Rattle.schema_attributes.specs.steps.Redeclaring.{IsRedeclaredAt}

-- what is seen as an entity is one
pub seen-entity : (d : DeclarationValue) → ((x : EntityValue) → d ≡ declarations.Entity x → ⊥) → (e : Entity)
    → declaration_of d ≡ entity e → ⊥
seen-entity (declarations.Entity x) h e k = h x refl
seen-entity (declarations.Type t) h e k = cc
seen-entity (declarations.Skipped p) h e k = cc

module _ (s : Schema) where
  -- what is no entity has no attributes
  pub not-entity : (q : Name) (i : ℕ) (d : Declaration) → HasNumber s q i → IsAt s i d
      → ((e : Entity) → d ≡ entity e → ⊥) → IsEntity s q → ⊥
  not-entity q i d k at other (e, here) =
      other e (some-is d (entity e) (sym at ∙ sym (stands-at s q i k) ∙ here))
    where
      some-is : (d e : Declaration) → Some d ≡ Some e → d ≡ e
      some-is d e h = cc

  pub no-entity : (q : Name) (i : ℕ) (d : Declaration) → HasNumber s q i → IsAt s i d
      → ((e : Entity) → d ≡ entity e → ⊥) → (a : Name) → IsNumberOf s (IsOrigin s q a) None
  no-entity q i d k at other a p (ent, line, lines, first) = not-entity q i d k at other ent

  pub no-number : (q : Name) → number_of s q ≡ None → (a : Name) → IsNumberOf s (IsOrigin s q a) None
  no-number q none a p ((e, here), line, lines, first) =
      let (i, k) = each-number 0 s.declarations q (entity e) here in lacks i (sym none ∙ k)
    where
      lacks : (i : ℕ) → None ≡ Some i → ⊥
      lacks i h = cc

  -- an attribute is declared by one entity first
  origin-is-one : IsResolved s → (q a x y : Name) → IsOrigin s q a x → IsOrigin s q a y → y ≡ x
  origin-is-one r q a x y (ent, line, h, f) (_, other, g, k) =
      first-is-one (λ (n : Name). Declares s n a) (line q) y x
      (subst (λ xs. IsFirst (λ (n : Name). Declares s n a) xs y) (solutions-are-one s r make_line other line g h q ent)
      k) f

  origin-entity : (q a x : Name) → IsOrigin s q a x → IsEntity s x
  origin-entity q a x (ent, line, h, f) =
      let (e, at, among) = first-holds (λ (n : Name). Declares s n a) (line q) x f in (e, at)

  entity-is : (q p a b : Name) → redeclared q a ≡ redeclared p b → (q ≡ p) × (a ≡ b)
  entity-is q p a b h = (cc, cc)

  pub redeclared-at : IsResolved s → (q a : Name) (o : Option ℕ) → IsNumberOf s (IsOrigin s q a) o
      → IsRedeclaredAt s (redeclared q a) o
  redeclared-at r q a None h = λ p b (m, is, from).
      let same = entity-is q m a b is in
      h p (subst (λ x. IsOrigin s x a p) (sym same.0) (subst (λ x. IsOrigin s m x p) (sym same.1) from))
  redeclared-at r q a (Some i) (p, k, from) = (p, a, origin-entity q a p from, k, (q, refl, from), only)
    where
      only : (x b : Name) → IsRedeclaration s (redeclared q a) x b → (x ≡ p) × (b ≡ a)
      only x b (m, is, other) =
          let same = entity-is q m a b is in (
            origin-is-one r q a p x from
                (subst (λ y. IsOrigin s y a x) (sym same.0) (subst (λ y. IsOrigin s m y x) (sym same.1) other)),
            sym same.1,
          )

  pub own-redeclares-none : (n : Name) → IsRedeclaredAt s (own n) None
  own-redeclares-none n p a (q, is, from) = differ n q a is
    where
      differ : (n q a : Name) → own n ≡ redeclared q a → ⊥
      differ n q a h = cc
