-- What a search in the declarations of a name says.
use Rattle.std.specs.Prelude.{◌≡◌, ℕ, Bool, true, false, cond, not, ◌&&◌, eqb, List, [], ◌∷◌, Option, None, Some, find}
use Rattle.std.proofs.Common.{refl, inl, inr, ap, sym, subst, ◌∙◌, arith}
use Rattle.std.proofs.lemmas.Bool.Decides.{nat_tests}
use Rattle.graphs.specs.Graphs.{Graph}
use Rattle.schema_semantics.specs.Names.{Among}
use Rattle.schema_attributes.specs.declared.declaration.AttributeDeclaration.{AttributeDeclaration}
use Rattle.schema_attribute_references.specs.steps.Choosing.{is_of_kind, is_of_another, has_another, first_of, has_another_than, has_two}
use Rattle.schema_attribute_references.proofs.Filtering.{some-is, any-found, found-any}

-- the first that passes a test
module _ {A : Type 0} (f : A → Bool) where
  pub find-found : (xs : List A) (x : A) → find f xs ≡ Some x → Among x xs × (f x ≡ true)
  find-found [] x e = absurd (cc)
  find-found (y ∷ xs) x e = by (f y) refl e (find-found xs x)
    where
      by : (b : Bool) → f y ≡ b → cond b (Some y) (find f xs) ≡ Some x
          → (find f xs ≡ Some x → Among x xs × (f x ≡ true)) → Among x (y ∷ xs) × (f x ≡ true)
      by true t k more = let is = some-is y x k in (inl is, subst (λ z. f z ≡ true) is t)
      by false t k more = let (m, u) = more k in (inr m, u)

  pub find-none : (xs : List A) → find f xs ≡ None → (x : A) → Among x xs → f x ≡ true → ⊥
  find-none [] e x m t = elim m [ ]
  find-none (y ∷ xs) e x m t = by (f y) refl e m (λ k n. find-none xs k x n t)
    where
      by : (b : Bool) → f y ≡ b → cond b (Some y) (find f xs) ≡ None → Among x (y ∷ xs)
          → (find f xs ≡ None → Among x xs → ⊥) → ⊥
      by true u k n more = absurd (cc)
      by false u k (inl is) more = let v = sym u ∙ ap f is ∙ t in absurd (cc)
      by false u k (inr n) more = more k n

both : (p q : Bool) → (p && q) ≡ true → (p ≡ true) × (q ≡ true)
both true q e = (refl, e)
both false q e = absurd (cc)

both-so : (p q : Bool) → p ≡ true → q ≡ true → (p && q) ≡ true
both-so true q e f = f
both-so false q e f = absurd (cc)

apart-forth : (m n : ℕ) → not (eqb m n) ≡ true → m ≡ n → ⊥
apart-forth m n e same =
    let is : eqb m n ≡ true = grind (arith, nat_tests) in
    let never = sym e ∙ ap not is in
    absurd (cc)

apart-back : (m n : ℕ) → (m ≡ n → ⊥) → not (eqb m n) ≡ true
apart-back m n ne = by (eqb m n) refl
  where
    by : (b : Bool) → eqb m n ≡ b → not (eqb m n) ≡ true
    by true e = let same : m ≡ n = grind (arith, nat_tests) in absurd (ne same)
    by false e = ap not e

module _ (above : Graph) (ys : List AttributeDeclaration) (i : ℕ) where
  -- i is a kind of the entity whose attribute this is, one of these
  abbrev pub IsOne : AttributeDeclaration → Type 0
  IsOne x = Among x ys × (is_of_kind above i x ≡ true)

  pub another-forth : (p : ℕ) → has_another above ys i p ≡ true → (y : AttributeDeclaration) × IsOne y
      × (y.entity ≡ p → ⊥)
  another-forth p e =
      let (y, m, passes) = any-found (is_of_another above i p) ys e in
      let (ne, kind) = both (not (eqb y.entity p)) (is_of_kind above i y) passes in
      (y, (m, kind), apart-forth y.entity p ne)

  pub another-back : (p : ℕ) (y : AttributeDeclaration) → IsOne y → (y.entity ≡ p → ⊥)
      → has_another above ys i p ≡ true
  another-back p y (m, kind) ne =
      found-any (is_of_another above i p) ys y m
      (both-so (not (eqb y.entity p)) (is_of_kind above i y) (apart-back y.entity p ne) kind)

  pub two-forth : has_two above ys i ≡ true → (x : AttributeDeclaration) × (y : AttributeDeclaration) × IsOne x
      × IsOne y × (y.entity ≡ x.entity → ⊥)
  two-forth e = by (first_of above ys i) refl e
    where
      by : (o : Option AttributeDeclaration) → first_of above ys i ≡ o → has_another_than above ys i o ≡ true
          → (x : AttributeDeclaration) × (y : AttributeDeclaration) × IsOne x × IsOne y × (y.entity ≡ x.entity → ⊥)
      by None k t = absurd (cc)
      by (Some x) k t =
          let (y, is, ne) = another-forth x.entity t in (x, y, find-found (is_of_kind above i) ys x k, is, ne)

  pub two-back : (x y : AttributeDeclaration) → IsOne x → IsOne y → (y.entity ≡ x.entity → ⊥)
      → has_two above ys i ≡ true
  two-back x y is other ne = by (first_of above ys i) refl
    where
      by : (o : Option AttributeDeclaration) → first_of above ys i ≡ o → has_two above ys i ≡ true
      by None k = absurd (find-none (is_of_kind above i) ys k x is.0 is.1)
      by (Some z) k =
          subst (λ o. has_another_than above ys i o ≡ true) (sym k) (which (eqb x.entity z.entity) refl)
        where
          which : (b : Bool) → eqb x.entity z.entity ≡ b → has_another above ys i z.entity ≡ true
          which true e =
              let same : x.entity ≡ z.entity = grind (arith, nat_tests) in
              another-back z.entity y other (λ d. ne (d ∙ sym same))
          which false e =
              another-back z.entity x is (λ d. (let is-it : eqb x.entity z.entity ≡ true = grind (arith, nat_tests) in
              absurd (cc)))
