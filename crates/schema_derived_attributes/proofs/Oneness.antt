-- A derived attribute is computed in one way.
use Rattle.std.specs.Prelude.{◌≡◌, ℕ, zero, suc, List, [], ◌∷◌, Option, None, Some}
use Rattle.std.proofs.Common.{refl, inl, inr, ap, sym, subst, ◌∙◌}
use Rattle.express_syntax.specs.Trees.{Tree}
use Rattle.express_syntax.specs.Schemas.{Schema, Entity, entity, Derived, parsed}
use Rattle.schema_semantics.specs.Names.{listed}
use Rattle.schema_semantics.specs.Attributes.{Derivation, IsNth, IsDerivation}
use Rattle.schema_semantics.proofs.Ranking.{ranks-are-one}
use Rattle.conformance.specs.Attributes.{Formula, IsFormula}

one-nth : (xs : List Derived) (n : ℕ) (x y : Derived) → IsNth xs n x → IsNth xs n y → x ≡ y
one-nth [] n x y h k = elim h [ ]
one-nth (z ∷ xs) zero x y h k = sym h ∙ k
one-nth (z ∷ xs) (suc n) x y h k = one-nth xs n x y h k

one-entity : (x y : Entity) → Some (entity x) ≡ Some (entity y) → x ≡ y
one-entity x y e = cc

one-tree : (x y : Tree) → parsed x ≡ parsed y → x ≡ y
one-tree x y e = cc

formula-is : (m n : ℕ) (x y : Tree) → m ≡ n → x ≡ y
    → ◌≡◌ {A = Formula} (record { rank = m; expression = x }) (record { rank = n; expression = y })
formula-is m n x y p q = λ i. record { rank = p i; expression = q i }

module _ (s : Schema) where
  one-derivation : (d : Derivation) (x y : Derived) → IsDerivation s d x → IsDerivation s d y → x ≡ y
  one-derivation (e, n) x y (u, at, h) (v, there, k) =
      one-nth (listed u.derived) n x y h
      (subst (λ (w : Entity). IsNth (listed w.derived) n y) (one-entity v u (sym there ∙ at)) k)

  no-formula : (d : Derivation) (f : Formula) → IsFormula s d None → IsFormula s d (Some f) → ⊥
  no-formula d f (inl h) k = k.0 h
  no-formula d f (inr h) k = h k.1.0 k.1.1

  pub one-formula : (d : Derivation) (o q : Option Formula) → IsFormula s d o → IsFormula s d q → o ≡ q
  one-formula d None None h k = refl
  one-formula d None (Some g) h k = absurd (no-formula d g h k)
  one-formula d (Some f) None h k = absurd (no-formula d f k h)
  one-formula d (Some f) (Some g) h k =
      let same : h.1.0 ≡ k.1.0 = one-derivation d h.1.0 k.1.0 h.1.1 k.1.1 in
      let tree : f.expression ≡ g.expression =
      one-tree f.expression g.expression (sym h.1.2 ∙ (ap (λ (x : Derived). x.body) same ∙ k.1.2)) in
      let ranked : f.rank ≡ g.rank =
      sym h.2.2 ∙ (ranks-are-one s h.2.0 k.2.0 d h.2.1 k.2.1 h.0 ∙ k.2.2) in
      ap Some (formula-is f.rank g.rank f.expression g.expression ranked tree)
