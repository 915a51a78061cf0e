-- Which data types have the shape of the first one of an attribute.
use Rattle.std.specs.Prelude.{◌≡◌, ℕ, ◌<◌, Bool, false, List, [], ◌∷◌, ◌↔◌, None, Some, map, length, slice_get, IsTrue}
use Rattle.std.proofs.Common.{inl, inr, subst, arith}
use Rattle.std.proofs.lemmas.Option.{slice_get_within}
use Rattle.express_syntax.specs.Schemas.{Schema, entity, Entity, own, Explicit, Derived, Inverse, DataType}
use Rattle.express_syntax.specs.Profile.{Every}
use Rattle.schema_semantics.specs.Names.{Name, OneOf, Among, listed}
use Rattle.schema_semantics.specs.Faults.{IsResolved}
use Rattle.schema_semantics.specs.Shapes.{AreAlikeTypes}
use Rattle.schema_semantics.specs.Attributes.{collected, DeclaresAs, IsFirstType, HasFirstShape}
use Rattle.schema_semantics.proofs.Supertypes.{found}
use Rattle.schema_data_types.specs.NumberedTypes.{all_data_types}
use Rattle.schema_data_types.specs.declared.shapes.Shape.{Shape}
use Rattle.schema_data_types.specs.ShapeTables.{AreShapes, IsKnown, DecidesAlike}
use Rattle.schema_data_types.specs.Laws.{AreKnownOf, IsKnownInverse, DataTypesAreKnown}
use Rattle.schema_attributes.specs.steps.Redeclaring.{IsFirstTypeAt}

module _ (law : DataTypesAreKnown) (s : Schema) (r : IsResolved s) where
  one-known : {X : Type 0} (f : X → DataType) (P : X → Type 0) (k : DataType) (xs : List X)
      → Every (IsKnown s) (map f xs) → OneOf (λ x. P x × (f x ≡ k)) xs → IsKnown s k
  one-known f P k [] h one = elim one [ ]
  one-known f P k (x ∷ xs) h (inl (p, e)) = subst (IsKnown s) e h.0
  one-known f P k (x ∷ xs) h (inr one) = one-known f P k xs h.1 one

  inverse-known : (a : Name) (k : DataType) (is : List Inverse) → Every (IsKnownInverse s) is
      → OneOf (λ (i : Inverse). (i.attribute ≡ own a) × (collected i.collection i.entity ≡ k)) is → IsKnown s k
  inverse-known a k [] h one = elim one [ ]
  inverse-known a k (i ∷ is) h (inl (n, e)) = subst (IsKnown s) e (h.0 a n)
  inverse-known a k (i ∷ is) h (inr one) = inverse-known a k is h.1 one

  typed-known : (a : Name) (k : DataType) (e : Entity) → AreKnownOf s e → DeclaresAs a k e → IsKnown s k
  typed-known a k e h (inl one) =
      one-known (λ (x : Explicit). x.data_type) (λ (x : Explicit). Among (own a) x.attributes) k e.explicits h.0 one
  typed-known a k e h (inr (inl one)) =
      one-known (λ (d : Derived). d.data_type) (λ (d : Derived). d.attribute ≡ own a) k (listed e.derived) h.1 one
  typed-known a k e h (inr (inr one)) = inverse-known a k (listed e.inverses) h.2 one

  -- the first data type of an attribute is known
  pub first-known : (p a : Name) (k : DataType) → IsFirstType s p a k → IsKnown s k
  first-known p a k (e, at, typed) =
      typed-known a k e ((law s r).1 e (found s.declarations p (entity e) at).0) typed

  module _ (p a : Name) (k : DataType) where
    pub no-first-shape : IsFirstTypeAt s p a None → IsTrue false ↔ HasFirstShape s p a k
    no-first-shape none = ((λ t. absurd (cc)), (λ (l, first, alike). absurd (none l first)))

    module _ (shapes : List Shape) (h : AreShapes s shapes) (n : ℕ) (at : slice_get (all_data_types s) n ≡ Some k)
        (known : IsKnown s k) where
      pub first-shape-told : (m : ℕ) (b : Bool) → (m < length shapes → n < length shapes → DecidesAlike shapes m n b)
          → IsFirstTypeAt s p a (Some m) → IsTrue b ↔ HasFirstShape s p a k
      first-shape-told m b decides (l, there, first, only) = (forth, back)
        where
          both : IsTrue b ↔ AreAlikeTypes s l k
          both =
              let same = h.same in
              let low = slice_get_within (all_data_types s) m l there in
              let high = slice_get_within (all_data_types s) n k at in
              decides (omega (arith, low, same)) (omega (arith, high, same)) s l k r h there at
              (first-known p a l first) known

          forth : IsTrue b → HasFirstShape s p a k
          forth t = (l, first, both.0 t)

          back : HasFirstShape s p a k → IsTrue b
          back (x, other, alike) = both.1 (subst (λ y. AreAlikeTypes s y k) (only x other) alike)
