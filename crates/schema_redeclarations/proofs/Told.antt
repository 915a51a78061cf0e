-- What rows say of what is declared.
use Rattle.std.specs.Prelude.{◌≡◌, ℕ, Bool, true, false, List, [], ◌∷◌, Option, None, Some, map, get_or, slice_get, ◌⊎◌, ◌↔◌, IsTrue}
use Rattle.std.specs.List.{AllZip}
use Rattle.std.proofs.Common.{refl, inl, inr, ap, sym, subst, ◌∙◌, zero, suc}
use Rattle.graphs.specs.Graphs.{Graph, graph_of, next, has}
use Rattle.express_syntax.specs.Schemas.{Schema, Declaration, type, entity, skipped, Entity, Explicit}
use Rattle.schema_semantics.specs.Names.{Name, Among, declaration_of, listed, IsEntity, IsEntityAt}
use Rattle.schema_semantics.specs.Attributes.{Place}
use Rattle.schema_names.specs.Numbers.{HasNumber, IsAt}
use Rattle.schema_names.proofs.Numbers.{stands-at, what-stands, each-number}
use Rattle.schema_data_types.specs.ShapeTables.{IsKnown}
use Rattle.conformance.specs.Entities.{Entities, AreEntities, AreThose, DeclaresSo, RedeclaresDerived}
use Rattle.schema_underlying_types.specs.BaseViews.{type_at}
use Rattle.schema_redeclarations.specs.declared.uses.AttributeUse.{AttributeUse}
use Rattle.schema_redeclarations.specs.declared.uses.Uses.{Uses}
use Rattle.schema_redeclarations.specs.Uses.{HasPlace, of_place, seen, said, AreSaid, AreUses}
use Rattle.schema_redeclarations.specs.steps.Speaking.{ArePlacesOf, DerivesOne, AreUsesOf, AreUsesIn, AreDerivedIn}

-- the row of a declaration
at-number : {A B : Type 0} (R : A → B → Type 0) (xs : List A) (rows : List B) (i : ℕ) (x : A) (none : B)
    → AllZip R xs rows → slice_get xs i ≡ Some x → R x (get_or rows i none)
at-number R [] rows i x none h at = absurd (cc)
at-number R (y ∷ xs) [] i x none h at = elim h [ ]
at-number R (y ∷ xs) (r ∷ rows) zero x none h at = let same : y ≡ x = cc in subst (λ z. R z r) same h.0
at-number R (y ∷ xs) (r ∷ rows) (suc i) x none h at = at-number R xs rows i x none h.1 at

of-each : {A B : Type 0} (R : A → B → Type 0) (Q : B → Type 0) (xs : List A) (rows : List B) (i : ℕ) (none : B)
    → AllZip R xs rows → ((x : A) (r : B) → R x r → Q r) → Q none → Q (get_or rows i none)
of-each R Q [] [] i none h q k = k
of-each R Q [] (r ∷ rows) i none h q k = elim h [ ]
of-each R Q (x ∷ xs) [] i none h q k = k
of-each R Q (x ∷ xs) (r ∷ rows) zero none h q k = q x r h.0
of-each R Q (x ∷ xs) (r ∷ rows) (suc i) none h q k = of-each R Q xs rows i none h.1 q k

-- a test is told by what it decides
same-test : (P : Type 0) (a b : Bool) → (a ≡ true) ↔ P → IsTrue b ↔ P → a ≡ b
same-test P true true h k = refl
same-test P false false h k = refl
same-test P true false h k = absurd (differ (k.1 (h.0 refl)))
  where
    differ : IsTrue false → ⊥
    differ e = absurd (cc)
same-test P false true h k = h.1 (k.0 refl)

is-entity : (d e : Declaration) → Some d ≡ Some e → d ≡ e
is-entity d e h = cc

module _ (s : Schema) (uses : List (List AttributeUse)) (are : AllZip (AreUsesIn s) s.declarations uses) where
  uses-of : (n : Name) (e : Entity) → IsEntityAt s n e → (i : ℕ) → HasNumber s n i
      → AreUsesOf s e.name e.explicits (get_or uses i [])
  uses-of n e at i k =
      at-number (AreUsesIn s) s.declarations uses i (entity e) [] are (sym (stands-at s n i k) ∙ at)

  some-of : (n : Name) (e : Entity) → IsEntityAt s n e → (p : Place) → (ys : List Explicit)
      × AreThose (DeclaresSo s e p) e.explicits ys
  some-of n e at p =
      let (i, k) = each-number 0 s.declarations n (entity e) at in (uses-of n e at i k).some p

  -- the functions of a schema say the same
  pub told-explicit : (en : Entities) → AreEntities s en → (n : Name) (i : ℕ) → IsEntity s n → HasNumber s n i
      → (p : Place) (q : ℕ) → HasPlace s p q
      → map (seen s) (of_place q (get_or uses i [])) ≡ map said (en.declarations n p)
  told-explicit en h n i (e, at) k p q here =
      (uses-of n e at i k).told p q here (en.declarations n p) (h.declarations n e at p)

  pub told-known : (i : ℕ) (u : AttributeUse) → Among u (get_or uses i []) → IsKnown s (type_at s u.data_type)
  told-known i u m =
      of-each (AreUsesIn s) (λ us. Among u us → IsKnown s (type_at s u.data_type)) s.declarations uses i [] are each
      (λ k. elim k [ ]) m
    where
      each : (d : Declaration) (us : List AttributeUse) → AreUsesIn s d us → Among u us
          → IsKnown s (type_at s u.data_type)
      each (type t) us h k = elim (subst (Among u) h k) [ ]
      each (entity e) us h k = h.known u k
      each (skipped p) us h k = elim (subst (Among u) h k) [ ]

  module _ (derived : Graph) (them : AllZip (AreDerivedIn s) s.declarations derived) where
    derived-of : (n : Name) (e : Entity) → IsEntityAt s n e → (i : ℕ) → HasNumber s n i
        → ArePlacesOf s (DerivesOne s (listed e.derived)) (next derived i)
    derived-of n e at i k =
        at-number (AreDerivedIn s) s.declarations derived i (entity e) [] them (sym (stands-at s n i k) ∙ at)

    redeclares : (n : Name) (e : Entity) → IsEntityAt s n e → (p : Place)
        → DerivesOne s (listed e.derived) p ↔ RedeclaresDerived s n p
    redeclares n e at p = ((λ h. (e, at, h)), back)
      where
        one : (a b : Entity) → Some (entity a) ≡ Some (entity b) → a ≡ b
        one a b e = cc

        back : RedeclaresDerived s n p → DerivesOne s (listed e.derived) p
        back (x, there, h) =
            subst (λ y. DerivesOne s (listed y.derived) p) (one x e (sym there ∙ at)) h

    -- the declarations as a function, and the decision as one
    declarations-in : (n : Name) → Place → (o : Option Declaration) → declaration_of s.declarations n ≡ o
        → List Explicit
    declarations-in n p None at = []
    declarations-in n p (Some (type t)) at = []
    declarations-in n p (Some (entity e)) at = (some-of n e at p).0
    declarations-in n p (Some (skipped t)) at = []

    told-by : {P : Type 0} → P ⊎ (P → ⊥) → Bool
    told-by (inl p) = true
    told-by (inr never) = false

    derives-in : (n : Name) → Place → (o : Option Declaration) → declaration_of s.declarations n ≡ o → Bool
    derives-in n p None at = false
    derives-in n p (Some (type t)) at = false
    derives-in n p (Some (entity e)) at =
        let (i, k) = each-number 0 s.declarations n (entity e) at in
        told-by ((derived-of n e at i k).decided p)
    derives-in n p (Some (skipped t)) at = false

    declared-in : (n : Name) (e : Entity) → IsEntityAt s n e → (p : Place) (o : Option Declaration)
        (at : declaration_of s.declarations n ≡ o) → AreThose (DeclaresSo s e p) e.explicits (declarations-in n p o at)
    unfolding declarations-in
    declared-in n e here p None at = let q = sym at ∙ here in absurd (cc)
    declared-in n e here p (Some (type t)) at = let q = sym at ∙ here in absurd (cc)
    declared-in n e here p (Some (entity x)) at =
        let q : entity x ≡ entity e = is-entity (entity x) (entity e) (sym at ∙ here) in
        let same : x ≡ e = cc in
        subst (λ y. AreThose (DeclaresSo s y p) y.explicits (some-of n x at p).0) same (some-of n x at p).1
    declared-in n e here p (Some (skipped t)) at = let q = sym at ∙ here in absurd (cc)

    decides : (P : Type 0) (d : P ⊎ (P → ⊥)) → IsTrue (told-by d) ↔ P
    unfolding told-by
    decides P (inl p) = ((λ e. p), (λ k. refl))
    decides P (inr never) = ((λ e. absurd (cc)), (λ k. absurd (never k)))

    not-there : (n : Name) (p : Place) → ((e : Entity) → IsEntityAt s n e → ⊥) → IsTrue false ↔ RedeclaresDerived s n p
    not-there n p never = ((λ e. absurd (cc)), (λ (e, at, h). absurd (never e at)))

    derived-in : (n : Name) (p : Place) (o : Option Declaration) (at : declaration_of s.declarations n ≡ o)
        → IsTrue (derives-in n p o at) ↔ RedeclaresDerived s n p
    unfolding derives-in
    derived-in n p None at = not-there n p (λ e here. let q = sym at ∙ here in absurd (cc))
    derived-in n p (Some (type t)) at = not-there n p (λ e here. let q = sym at ∙ here in absurd (cc))
    derived-in n p (Some (entity e)) at =
        let (i, k) = each-number 0 s.declarations n (entity e) at in
        let m = decides (DerivesOne s (listed e.derived) p) ((derived-of n e at i k).decided p) in
        let r = redeclares n e at p in
        ((λ x. r.0 (m.0 x)), (λ y. m.1 (r.1 y)))
    derived-in n p (Some (skipped t)) at = not-there n p (λ e here. let q = sym at ∙ here in absurd (cc))

    pub are-said : AreSaid s
    are-said = record {
      declarations = λ n p. declarations-in n p (declaration_of s.declarations n) refl;
      derives = λ n p. derives-in n p (declaration_of s.declarations n) refl;
      declared = λ n e at p. declared-in n e at p (declaration_of s.declarations n) refl;
      derived = λ n p. derived-in n p (declaration_of s.declarations n) refl;
    }

    pub told-derived : (en : Entities) → AreEntities s en → (n : Name) (i : ℕ) → HasNumber s n i → (p : Place) (q : ℕ)
        → HasPlace s p q → has (next derived i) q ≡ en.derives n p
    told-derived en h n i k p q here =
        let (d, at, named) = what-stands s n i k in
        same-test (RedeclaresDerived s n p) (has (next derived i) q) (en.derives n p)
        (by d at (at-number (AreDerivedIn s) s.declarations derived i d [] them at)) (h.derives n p)
      where
        none : (ns : List ℕ) → ns ≡ [] → (d : Declaration) → IsAt s i d → ((e : Entity) → d ≡ entity e → ⊥)
            → (has ns q ≡ true) ↔ RedeclaresDerived s n p
        none ns is d at never = (
          (λ e. let f = sym (ap (λ ms. has ms q) is) ∙ e in absurd (cc)),
          (λ (e, there, m). absurd (never e (is-entity d (entity e) (sym at ∙ sym (stands-at s n i k) ∙ there)))),
        )

        by : (d : Declaration) → IsAt s i d → AreDerivedIn s d (next derived i)
            → (has (next derived i) q ≡ true) ↔ RedeclaresDerived s n p
        by (type t) at is = none (next derived i) is (type t) at (λ e f. absurd (cc))
        by (skipped t) at is = none (next derived i) is (skipped t) at (λ e f. absurd (cc))
        by (entity e) at are =
            let there : IsEntityAt s n e = stands-at s n i k ∙ at in
            let m = are.numbers p q here in
            let r = redeclares n e there p in
            ((λ x. r.0 (m.0 x)), (λ y. m.1 (r.1 y)))

pub are-uses : (s : Schema) (t : Uses) → AllZip (AreUsesIn s) s.declarations (map (λ v. v.items) t.explicit.items)
    → AllZip (AreDerivedIn s) s.declarations (graph_of t.derived.items) → AreUses s t
are-uses s t are them = record {
  exists = are-said s (map (λ v. v.items) t.explicit.items) are (graph_of t.derived.items) them;
  explicit = told-explicit s (map (λ v. v.items) t.explicit.items) are;
  derived = told-derived s (map (λ v. v.items) t.explicit.items) are (graph_of t.derived.items) them;
  known = told-known s (map (λ v. v.items) t.explicit.items) are;
}
