-- From the declarations that are taken to what a reference takes.
use Rattle.std.specs.Prelude.{◌≡◌, ℕ, Bool, true, List, [], ◌∷◌, filter, ◌↔◌, IsTrue}
use Rattle.std.proofs.Common.{refl, inl, inr, sym, subst, ◌∙◌}
use Rattle.express_syntax.specs.Schemas.{Schema, DataType}
use Rattle.schema_semantics.specs.Names.{Name, Among, Declares}
use Rattle.schema_semantics.specs.Shapes.{Atom, instance, IsOf}
use Rattle.schema_semantics.specs.Attributes.{Derivation}
use Rattle.schema_semantics.specs.Sets.{Set, AttributeReference, of_set, attribute_name, MayTake, IsUnclear, MayUse, OfTaken}
use Rattle.schema_attributes.specs.declared.declaration.AttributeDeclaration.{AttributeDeclaration}
use Rattle.schema_attributes.specs.steps.Declarations.{AreDeclarations, IsDeclaredBy, GivesType, GivesValue}
use Rattle.schema_attributes.specs.Derivations.{HasDerivation, HoldsDerivation}
use Rattle.schema_attribute_references.specs.declared.taken_attributes.Taken.{Taken}
use Rattle.schema_attribute_references.specs.steps.Gathering.{Gathers, IsOfOne, is_any}
use Rattle.schema_attribute_references.specs.steps.Taking.{IsTaken}
use Rattle.schema_attribute_references.proofs.Filtering.{one-found, found-one, kept-among, among-kept, part-forth, part-back}

is-some : (ys : List AttributeDeclaration) (y : AttributeDeclaration) → Among y ys → is_any ys ≡ true
is-some [] y m = elim m [ ]
is-some (x ∷ ys) y m = refl

some-one : (ys : List AttributeDeclaration) → is_any ys ≡ true → (y : AttributeDeclaration) × Among y ys
some-one [] e = absurd (cc)
some-one (y ∷ ys) e = (y, inl refl)

-- A test passes just those declarations of a name whose attributes may be taken.
pub record Chooses (s : Schema) (q : AttributeReference) (xs : List AttributeDeclaration)
    (f : AttributeDeclaration → Bool) : Type 1 where
  pub are : AreDeclarations s (attribute_name q) xs
  pub decides : (p : Name) (x : AttributeDeclaration) → Among x xs → IsDeclaredBy s p x
      → (f x ≡ true) ↔ MayTake s q p
  pub declares : (p : Name) → MayTake s q p → Declares s p (attribute_name q)

module _ (s : Schema) (q : AttributeReference) (xs : List AttributeDeclaration) (f : AttributeDeclaration → Bool)
    (c : Chooses s q xs f) where
  -- whose attribute is taken
  pub taken-of : (x : AttributeDeclaration) → Among x (filter f xs) → (p : Name) × IsDeclaredBy s p x × MayTake s q p
  taken-of x m =
      let (n, passes) = kept-among f xs x m in
      let (p, k, ent, d, gives) = c.are.within x n in (p, d, (c.decides p x n d).0 passes)

  pub taken-among : (p : Name) (x : AttributeDeclaration) → MayTake s q p → Among x xs → IsDeclaredBy s p x
      → Among x (filter f xs)
  taken-among p x m n d = among-kept f xs x n ((c.decides p x n d).1 m)

  pub taken-one : (p : Name) → MayTake s q p → (x : AttributeDeclaration) × Among x (filter f xs) × IsDeclaredBy s p x
  taken-one p m =
      let (x, n, d) = one-found (IsDeclaredBy s p) xs ((c.are.declared p).1 (c.declares p m)) in
      (x, taken-among p x m n d, d)

  module _ (t : Taken) (g : Gathers s (filter f xs) t) where
    some-forth : IsTrue t.is_some → (p : Name) × MayTake s q p
    some-forth e =
        let (x, m) = some-one (filter f xs) (sym g.some ∙ e) in
        let (p, d, take) = taken-of x m in (p, take)

    some-back : (p : Name) → MayTake s q p → IsTrue t.is_some
    some-back p take = let (x, m, d) = taken-one p take in g.some ∙ is-some (filter f xs) x m

    may-forth : (a : Atom) → IsOfOne s (filter f xs) a → OfTaken s q a
    may-forth a h =
        let (x, m, (k, gives, of)) =
        one-found (λ (x : AttributeDeclaration). (k : DataType) × GivesType s k x × IsOf s k a) (filter f xs) h in
        let (n, passes) = kept-among f xs x m in
        let (p, d, take) = taken-of x m in (
          p,
          k,
          take,
          (c.are.typed p k).0 (found-one (λ (y : AttributeDeclaration). IsDeclaredBy s p y × GivesType s k y) xs x n (
            d,
            gives,
          )),
          of,
        )

    may-back : (a : Atom) → OfTaken s q a → IsOfOne s (filter f xs) a
    may-back a (p, k, take, typed, of) =
        let (x, n, (d, gives)) =
        one-found (λ (y : AttributeDeclaration). IsDeclaredBy s p y × GivesType s k y) xs ((c.are.typed p k).1 typed) in
        found-one (λ (x : AttributeDeclaration). (k : DataType) × GivesType s k x × IsOf s k a) (filter f xs) x
        (taken-among p x take n d) (k, gives, of)

    uses-forth : (d : Derivation) → HoldsDerivation s t.uses.items d → MayUse s d q
    uses-forth d h =
        let (x, m, value) =
        one-found (GivesValue s d) (filter f xs) (part-forth (λ (x : AttributeDeclaration). x.derivation)
        (λ (j : ℕ). HasDerivation s j d) (filter f xs) (subst (λ js. HoldsDerivation s js d) g.uses h)) in
        let (n, passes) = kept-among f xs x m in
        let (p, by, take) = taken-of x m in (
          p,
          take,
          (c.are.derived p d).0 (found-one (λ (y : AttributeDeclaration). IsDeclaredBy s p y × GivesValue s d y) xs x n
              (by, value)),
        )

    uses-back : (d : Derivation) → MayUse s d q → HoldsDerivation s t.uses.items d
    uses-back d (p, take, derives) =
        let (x, n, (by, value)) =
        one-found (λ (y : AttributeDeclaration). IsDeclaredBy s p y × GivesValue s d y) xs ((c.are.derived p d).1
        derives) in
        subst (λ js. HoldsDerivation s js d) (sym g.uses)
        (part-back (λ (x : AttributeDeclaration). x.derivation) (λ (j : ℕ). HasDerivation s j d) (filter f xs)
        (found-one (GivesValue s d) (filter f xs) x (taken-among p x take n by) value))

    pub is-taken : (IsTrue t.is_unclear ↔ IsUnclear s q) → IsTaken s q t
    is-taken unclear = record {
      some = (some-forth, (λ (p, take). some-back p take));
      unclear = unclear;
      may = λ a. ((λ h. may-forth a ((g.may a).0 h)), (λ h. (g.may a).1 (may-back a h)));
      uses = λ d. (uses-forth d, uses-back d);
    }

-- a set of the same entities
module _ (s : Schema) (M N : Set) (a : Name) (same : (n : Name) → M (instance n) ↔ N (instance n)) where
  take-forth : (p : Name) → MayTake s (of_set M a) p → MayTake s (of_set N a) p
  take-forth p (e, m, h) = (e, (same e).0 m, h)

  take-back : (p : Name) → MayTake s (of_set N a) p → MayTake s (of_set M a) p
  take-back p (e, m, h) = (e, (same e).1 m, h)

  unclear-forth : IsUnclear s (of_set M a) → IsUnclear s (of_set N a)
  unclear-forth (inl none) = inl (λ p m. none p (take-back p m))
  unclear-forth (inr (e, p, q, m, h, k, ne)) = inr (e, p, q, (same e).0 m, h, k, ne)

  unclear-back : IsUnclear s (of_set N a) → IsUnclear s (of_set M a)
  unclear-back (inl none) = inl (λ p m. none p (take-forth p m))
  unclear-back (inr (e, p, q, m, h, k, ne)) = inr (e, p, q, (same e).1 m, h, k, ne)

  of-forth : (x : Atom) → OfTaken s (of_set M a) x → OfTaken s (of_set N a) x
  of-forth x (p, k, m, typed, of) = (p, k, take-forth p m, typed, of)

  of-back : (x : Atom) → OfTaken s (of_set N a) x → OfTaken s (of_set M a) x
  of-back x (p, k, m, typed, of) = (p, k, take-back p m, typed, of)

  use-forth : (d : Derivation) → MayUse s d (of_set M a) → MayUse s d (of_set N a)
  use-forth d (p, m, h) = (p, take-forth p m, h)

  use-back : (d : Derivation) → MayUse s d (of_set N a) → MayUse s d (of_set M a)
  use-back d (p, m, h) = (p, take-back p m, h)

  pub taken-alike : (t : Taken) → IsTaken s (of_set M a) t → IsTaken s (of_set N a) t
  taken-alike t h = record {
    some = (
      (λ e. let (p, m) = h.some.0 e in (p, take-forth p m)),
      (λ (p, m). h.some.1 (p, take-back p m)),
    );
    unclear = ((λ e. unclear-forth (h.unclear.0 e)), (λ u. h.unclear.1 (unclear-back u)));
    may = λ x. ((λ m. of-forth x ((h.may x).0 m)), (λ m. (h.may x).1 (of-back x m)));
    uses = λ d. ((λ u. use-forth d ((h.uses d).0 u)), (λ u. (h.uses d).1 (use-back d u)));
  }
