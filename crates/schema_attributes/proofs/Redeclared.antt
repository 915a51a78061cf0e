-- What a redeclaration says of the attribute that it redeclares.
use Rattle.std.specs.Prelude.{◌≡◌, ℕ, Bool, true, false, Some, ◌↔◌, IsTrue}
use Rattle.std.proofs.Common.{refl, ap, sym, subst, ◌∙◌}
use Rattle.express_syntax.specs.Schemas.{Schema, Attribute, redeclared}
use Rattle.schema_semantics.specs.Names.{Name, IsEntity}
use Rattle.schema_semantics.specs.Attributes.{IsRedeclaration}
use Rattle.schema_names.specs.Numbers.{HasNumber}
use Rattle.schema_attributes.specs.declared.declaration.AttributeDeclaration.{AttributeDeclaration}
use Rattle.schema_attributes.specs.declared.attribute_collection.Class.{Class}
use Rattle.schema_attributes.specs.steps.Gathering.{Says, SaysIs, Allows}
use Rattle.schema_attributes.specs.steps.Redeclaring.{IsRedeclaredAt}

pub is-true : IsTrue true
is-true = refl

pub not-false : IsTrue false → ⊥
not-false h = absurd (cc)

-- what stands for an attribute has one name
pub named-so : (s : Schema) (q n p a : Name) → IsRedeclaration s (redeclared q n) p a → n ≡ a
named-so s q n p a (r, e, o) = cc

-- a number is one
pub one-number : (s : Schema) (p q : Name) (i j : ℕ) → HasNumber s p i → HasNumber s q j → p ≡ q → i ≡ j
one-number s p q i j h k e = some-is i j (sym h ∙ subst (λ y. HasNumber s y j) (sym e) k)
  where
    some-is : (i j : ℕ) → Some i ≡ Some j → i ≡ j
    some-is i j e = cc

module _ (s : Schema) (c : Class) (d : AttributeDeclaration) (q n : Name) where
  pub none-redeclared : ((p a : Name) → IsRedeclaration s (redeclared q n) p a → ⊥) → (a : Name)
      (x : AttributeDeclaration) → Says s c d (redeclared q n) a x → ⊥
  none-redeclared none a x (p, j, k, r, allowed, e) = none p a r

  module _ (i : ℕ) (h : IsRedeclaredAt s (redeclared q n) (Some i)) where
    pub not-allowed : (Allows s c d.data_type h.0 n → ⊥) → (a : Name) (x : AttributeDeclaration)
        → Says s c d (redeclared q n) a x → ⊥
    not-allowed not a x (p, j, k, r, allowed, e) =
        let (o, b, ent, there, here, one) = h in
        let same = one p a r in
        not (subst (λ y. Allows s c d.data_type o y) (sym (named-so s q n p a r))
        (subst (λ y. Allows s c d.data_type y a) same.0 allowed))

    pub says-so : Allows s c d.data_type h.0 n → (a : Name) (x : AttributeDeclaration)
        → SaysIs n (record { entity = i; data_type = d.data_type; derivation = d.derivation }) a x
        ↔ Says s c d (redeclared q n) a x
    says-so allowed a x = (forth, back)
      where
        forth : SaysIs n (record { entity = i; data_type = d.data_type; derivation = d.derivation }) a x
            → Says s c d (redeclared q n) a x
        forth (e, is) =
            let (o, b, ent, there, here, one) = h in
            let named = sym (named-so s q n o b here) ∙ e in (
              o,
              i,
              there,
              subst (IsRedeclaration s (redeclared q n) o) named here,
              subst (λ y. Allows s c d.data_type o y) e allowed,
              is,
            )

        back : Says s c d (redeclared q n) a x
            → SaysIs n (record { entity = i; data_type = d.data_type; derivation = d.derivation }) a x
        back (p, j, k, r, let_it, is) =
            let (o, b, ent, there, here, one) = h in
            let same = one-number s o p i j there k (sym (one p a r).0) in (
              named-so s q n p a r,
              ap (λ (y : ℕ). record { entity = y; data_type = d.data_type; derivation = d.derivation }) same ∙ is,
            )
