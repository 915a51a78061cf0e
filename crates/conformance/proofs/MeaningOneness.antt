-- What a schema says of attributes and of domain rules leaves no choice.
use Rattle.std.specs.Prelude.{◌≡◌, ◌≢◌, ℕ, zero, suc, ◌<◌, Bool, IsTrue, true, false, List, [], ◌∷◌, Option, Some, None, ◌⊎◌}
use Rattle.std.proofs.Common.{refl, ap, sym, subst, ◌∙◌, inl, inr, arith}
use Rattle.express_syntax.specs.Trees.{Tree}
use Rattle.express_syntax.specs.Schemas.{Schema, Entity, entity, Derived, parsed}
use Rattle.schema_semantics.specs.Names.{Name, listed, Has}
use Rattle.schema_semantics.specs.Faults.{IsResolved}
use Rattle.schema_semantics.specs.Attributes.{Derivation, IsNth, IsDerivation}
use Rattle.schema_semantics.proofs.Lists.{first-is-one}
use Rattle.schema_semantics.proofs.Supertypes.{kinds-are-apart}
use Rattle.schema_semantics.proofs.Ranking.{ranks-are-one}
use Rattle.conformance.specs.Rules.{InverseAttribute}
use Rattle.conformance.specs.Attributes.{Source, explicit, derived, inverse, unclear, Formula, DerivesFirst, IsLowest, IsDeclaring, IsGroupMember, IsFormula, IsSource, IsNamed, IsInGroup}
use Rattle.conformance.specs.DomainRules.{DomainRule, DomainStatement, statements_in, AreChecked}
use Rattle.conformance.specs.MeaningLaws.{AttributesAreOne, DomainRulesAreOne}

one_entity : (x y : Entity) → Some (entity x) ≡ Some (entity y) → x ≡ y
one_entity x y e = cc

one_tree : (x y : Tree) → parsed x ≡ parsed y → x ≡ y
one_tree x y e = cc

one_nth : (xs : List Derived) (n : ℕ) (x y : Derived) → IsNth xs n x → IsNth xs n y → x ≡ y
one_nth [] n x y h k = elim h [ ]
one_nth (z ∷ xs) zero x y h k = sym h ∙ k
one_nth (z ∷ xs) (suc n) x y h k = one_nth xs n x y h k

pub one_truth : (b c : Bool) → (IsTrue b → IsTrue c) → (IsTrue c → IsTrue b) → b ≡ c
one_truth true c f g = sym (f refl)
one_truth false true f g = g refl
one_truth false false f g = refl

-- of two numbers neither of which is less
one_number : (m n : ℕ) → (m < n → ⊥) → (n < m → ⊥) → m ≡ n
one_number zero zero f g = refl
one_number zero (suc n) f g = absurd (f (omega arith))
one_number (suc m) zero f g = absurd (g (omega arith))
one_number (suc m) (suc n) f g = ap suc (one_number m n (λ h. f (omega (arith, h))) (λ h. g (omega (arith, h))))

pair : (e f : Name) (m n : ℕ) → e ≡ f → m ≡ n → ◌≡◌ {A = Derivation} (e, m) (f, n)
pair e f m n p q = λ i. (p i, q i)

module _ (s : Schema) (resolved : IsResolved s) where
  one_lowest : (types : List Name) (p a e f : Name) → IsLowest s types p a e → IsLowest s types p a f → e ≡ f
  one_lowest types p a e f h k =
      kinds-are-apart s resolved e f (h.2 f k.0 k.1) (k.2 e h.0 h.1)

  one_first : (p a e : Name) (m n : ℕ) → DerivesFirst s p a (e, m) → DerivesFirst s p a (e, n) → m ≡ n
  one_first p a e m n h k = one_number m n (λ l. k.1 m l h.0) (λ l. h.1 n l k.0)

  one_derivation : (d : Derivation) (x y : Derived) → IsDerivation s d x → IsDerivation s d y → x ≡ y
  one_derivation (e, n) x y (u, at, h) (v, there, k) =
      one_nth (listed u.derived) n x y h
      (subst (λ (w : Entity). IsNth (listed w.derived) n y) (one_entity v u (sym there ∙ at)) k)

  formula_is : (m n : ℕ) (x y : Tree) → m ≡ n → x ≡ y
      → ◌≡◌ {A = Formula} (record { rank = m; expression = x }) (record { rank = n; expression = y })
  formula_is m n x y p q = λ i. record { rank = p i; expression = q i }

  no_formula : (d : Derivation) (f : Formula) → IsFormula s d None → IsFormula s d (Some f) → ⊥
  no_formula d f (inl h) k = k.0 h
  no_formula d f (inr h) k = h k.1.0 k.1.1

  one_formula : (d : Derivation) (o q : Option Formula) → IsFormula s d o → IsFormula s d q → o ≡ q
  one_formula d None None h k = refl
  one_formula d None (Some g) h k = absurd (no_formula d g h k)
  one_formula d (Some f) None h k = absurd (no_formula d f k h)
  one_formula d (Some f) (Some g) h k =
      let same : h.1.0 ≡ k.1.0 = one_derivation d h.1.0 k.1.0 h.1.1 k.1.1 in
      let tree : f.expression ≡ g.expression =
      one_tree f.expression g.expression (sym h.1.2 ∙ (ap (λ (x : Derived). x.body) same ∙ k.1.2)) in
      let ranked : f.rank ≡ g.rank =
      sym h.2.2 ∙ (ranks-are-one s h.2.0 k.2.0 d h.2.1 k.2.1 h.0 ∙ k.2.2) in
      ap Some (formula_is f.rank g.rank f.expression g.expression ranked tree)

  one_member : (types : List Name) (e a p q : Name) → IsGroupMember s types e a p → IsGroupMember s types e a q → p ≡ q
  one_member types e a p q h k = by h.2.2 k.2.2
    where
      by : (p ≡ e) ⊎ ((r : Name) → Has s e r a → r ≡ p) → (q ≡ e) ⊎ ((r : Name) → Has s e r a → r ≡ q) → p ≡ q
      by (inl f) (inl g) = f ∙ sym g
      by (inr f) g = sym (f q k.2.1)
      by (inl f) (inr g) = g p h.2.1

  module _ (inverses : List InverseAttribute) where
    same_source : (x y : Source) → x ≡ unclear → y ≡ unclear → x ≡ y
    same_source x y h k = h ∙ sym k

    one_source : (types : List Name) (p a : Name) (x y : Source) → IsSource s inverses types p a x
        → IsSource s inverses types p a y → x ≡ y
    one_source types p a (explicit q) (explicit r) h k = ap explicit (h.0 ∙ sym k.0)
    one_source types p a (explicit q) (derived (e, n)) h k = absurd (h.2 e k.0.0 k.0.1)
    one_source types p a (explicit q) (inverse i) h k = absurd (k.1 h.1)
    one_source types p a (explicit q) unclear h k = absurd (k.0 h.2)
    one_source types p a (derived (e, n)) (explicit q) h k = absurd (k.2 e h.0.0 h.0.1)
    one_source types p a (derived (e, n)) (derived (f, m)) h k =
        let same : e ≡ f = one_lowest types p a e f h.0 k.0 in
        let number : n ≡ m =
        one_first p a f n m (subst (λ g. DerivesFirst s p a (g, n)) same h.1) k.1 in
        ap derived (pair e f n m same number)
    one_source types p a (derived (e, n)) (inverse i) h k = absurd (k.2 e h.0.0 h.0.1)
    one_source types p a (derived (e, n)) unclear h k = absurd (k.1 e h.0)
    one_source types p a (inverse i) (explicit q) h k = absurd (h.1 k.1)
    one_source types p a (inverse i) (derived (e, n)) h k = absurd (h.2 e k.0.0 k.0.1)
    one_source types p a (inverse i) (inverse j) h k =
        ap inverse (first-is-one (λ (j : InverseAttribute). (j.entity ≡ p) × (j.name ≡ a)) inverses i j h.0 k.0)
    one_source types p a (inverse i) unclear h k = absurd (k.0 h.2)
    one_source types p a unclear (explicit q) h k = absurd (h.0 k.2)
    one_source types p a unclear (derived (e, n)) h k = absurd (h.1 e k.0)
    one_source types p a unclear (inverse i) h k = absurd (h.0 k.2)
    one_source types p a unclear unclear h k = refl

    not_declared : (types : List Name) (a : Name) (x : Source) → IsNamed s inverses types a None
        → IsNamed s inverses types a (Some x) → ⊥
    not_declared types a x h (inl k) = h k.0 k.1.0
    not_declared types a x h (inr k) = h k.0.0 k.0.2

    not_alone : (types : List Name) (a p : Name) → ((q : Name) → IsDeclaring s types a q → q ≡ p)
        → (q r : Name) → IsDeclaring s types a q → IsDeclaring s types a r → (q ≢ r) → ⊥
    not_alone types a p alone q r h k apart = apart (alone q h ∙ sym (alone r k))

    one_named : (types : List Name) (a : Name) (o q : Option Source) → IsNamed s inverses types a o
        → IsNamed s inverses types a q → o ≡ q
    one_named types a None None h k = refl
    one_named types a None (Some y) h k = absurd (not_declared types a y h k)
    one_named types a (Some x) None h k = absurd (not_declared types a x k h)
    one_named types a (Some x) (Some y) (inl h) (inl k) =
        ap Some (one_source types h.0 a x y h.2
        (subst (λ p. IsSource s inverses types p a y) (h.1.1 k.0 k.1.0) k.2))
    one_named types a (Some x) (Some y) (inl h) (inr k) =
        absurd (not_alone types a h.0 h.1.1 k.0.0 k.0.1 k.0.2 k.0.3 k.0.4)
    one_named types a (Some x) (Some y) (inr h) (inl k) =
        absurd (not_alone types a k.0 k.1.1 h.0.0 h.0.1 h.0.2 h.0.3 h.0.4)
    one_named types a (Some x) (Some y) (inr h) (inr k) = ap Some (same_source x y h.1 k.1)

    one_group : (types : List Name) (e a : Name) (x y : Source) → IsInGroup s inverses types e a x
        → IsInGroup s inverses types e a y → x ≡ y
    one_group types e a x y (inl h) (inl k) =
        one_source types h.0 a x y h.2
        (subst (λ p. IsSource s inverses types p a y) (one_member types e a k.0 h.0 k.1 h.1) k.2)
    one_group types e a x y (inl h) (inr k) = absurd (k.0 h.0 h.1)
    one_group types e a x y (inr h) (inl k) = absurd (h.0 k.0 k.1)
    one_group types e a x y (inr h) (inr k) = same_source x y h.1 k.1

pub attributes_are_one : AttributesAreOne
attributes_are_one s inverses resolved a b h k = λ i. record {
  source = λ types n. one_named s resolved inverses types n (a.source types n) (b.source types n) (h.sources types n)
      (k.sources types n) i;
  source_of = λ types e n. one_group s resolved inverses types e n (a.source_of types e n) (b.source_of types e n)
      (h.groups types e n) (k.groups types e n) i;
  formula = λ e. one_formula s resolved e (a.formula e) (b.formula e) (h.formulas e) (k.formulas e) i;
  is_defined_by = λ m n. one_truth (a.is_defined_by m n) (b.is_defined_by m n)
      (λ t. (k.names m n).1 ((h.names m n).0 t)) (λ t. (h.names m n).1 ((k.names m n).0 t)) i;
}

-- domain rules
module _ (s : Schema) where
  rule_is : (x : DomainStatement) (c f : Tree) (ps qs : List DomainRule) → c ≡ f → ps ≡ qs
      → ◌≡◌ {A = List DomainRule} (record { holder = x.holder; label = x.label; condition = c } ∷ ps)
      (record { holder = x.holder; label = x.label; condition = f } ∷ qs)
  rule_is x c f ps qs e r = λ i. record { holder = x.holder; label = x.label; condition = e i } ∷ r i

  one_list : (xs : List DomainStatement) (ps qs : List DomainRule) → AreChecked s xs ps → AreChecked s xs qs → ps ≡ qs
  one_list [] ps qs h k = h ∙ sym k
  one_list (x ∷ xs) ps qs (inl (free, c, at, more, e, rest)) (inl (free', f, there, others, g, left)) =
      e ∙ (rule_is x c f more others (one_tree c f (sym at ∙ there)) (one_list xs more others rest left) ∙ sym g)
  one_list (x ∷ xs) ps qs (inl (free, c, at, more, e, rest)) (inr ((r, why), left)) = absurd (free r why)
  one_list (x ∷ xs) ps qs (inr ((r, why), rest)) (inl (free, c, at, more, e, left)) = absurd (free r why)
  one_list (x ∷ xs) ps qs (inr (h, rest)) (inr (k, left)) = one_list xs ps qs rest left

pub domain_rules_are_one : DomainRulesAreOne
domain_rules_are_one s ps qs h k = one_list s (statements_in s.declarations) ps qs h k
