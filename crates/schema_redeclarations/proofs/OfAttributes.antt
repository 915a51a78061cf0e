-- Of which place an attribute speaks.
use Rattle.std.specs.Prelude.{◌≡◌, ℕ, ◌+◌, true, List, [], ◌∷◌, Option, None, Some, length, take, slice_get, ◌↔◌}
use Rattle.std.specs.List.{find}
use Rattle.std.proofs.Common.{refl, inl, inr, ap, sym, subst, ◌∙◌, arith, zero, suc}
use Rattle.graphs.specs.Graphs.{Graph, has, next}
use Rattle.express_syntax.specs.Schemas.{Schema, Attribute, own, redeclared, DataType}
use Rattle.schema_semantics.specs.Names.{Name, own_names}
use Rattle.schema_semantics.specs.Faults.{IsResolved}
use Rattle.schema_semantics.specs.Attributes.{Place, IsRedeclaration, HasFirstShape}
use Rattle.schema_explicit_attributes.specs.Places.{all_places, ArePlaceRows}
use Rattle.schema_attributes.specs.steps.Redeclaring.{IsRedeclaredAt}
use Rattle.schema_attributes.proofs.Redeclared.{named-so}
use Rattle.schema_redeclarations.specs.Uses.{HasPlace}
use Rattle.schema_redeclarations.specs.steps.Speaking.{ArePlacesOf, at_most_one, has_name, Redeclares, SpeaksOf, IsOwnAt, AreOwnAt}
use Rattle.schema_redeclarations.proofs.OwnRows.{has-one, one-has, one-at, own-found}
use Rattle.schema_redeclarations.proofs.Placing.{no-place, one-place}

place-is : (p : Place) (n a : Name) → n ≡ p.0 → a ≡ p.1 → p ≡ (n, a)
place-is p n a e f = λ i. (sym e i, sym f i)

own-differs : (a q b : Name) → own a ≡ redeclared q b → ⊥
own-differs a q b e = cc

own-is : (a b : Name) → own a ≡ own b → a ≡ b
own-is a b e = cc

module _ (s : Schema) (r : IsResolved s) where
  -- an own attribute
  pub own-speaks : (n : Name) (k : DataType) (a : Name) (o : Option ℕ) → IsOwnAt s n (own a) o
      → ArePlacesOf s (SpeaksOf s n k (own a)) (at_most_one o)
  own-speaks n k a o h = by o (h a refl)
    where
      forth : (p : Place) → SpeaksOf s n k (own a) p → p ≡ (n, a)
      forth p (inl (e, f)) = place-is p n a e (own-is a p.1 f)
      forth p (inr ((q, e, from), shape)) = absurd (own-differs a q p.1 e)

      back : (p : Place) → p ≡ (n, a) → SpeaksOf s n k (own a) p
      back p e = inl (sym (ap (λ (x : Place). x.0) e), ap own (sym (ap (λ (x : Place). x.1) e)))

      by : (o : Option ℕ) → (q : ℕ) × (o ≡ Some q) × HasPlace s (n, a) q
          → ArePlacesOf s (SpeaksOf s n k (own a)) (at_most_one o)
      by None (q, e, at) = absurd (cc)
      by (Some x) (q, e, at) =
          let same : x ≡ q = cc in
          let here : HasPlace s (n, a) x = subst (HasPlace s (n, a)) (sym same) at in
          one-place s (SpeaksOf s n k (own a)) (n, a) (x ∷ []) (λ p. (forth p, back p))
          (λ y. (
            (λ m. subst (HasPlace s (n, a)) (sym (one-has x y m)) here),
            (λ m. subst (λ z. has (x ∷ []) z ≡ true) (one-at s r (n, a) x y here m) (has-one x)),
          ))

  -- a redeclared one, by the entity that declares what is redeclared
  module _ (y : Attribute) where
    pub own-none : (a : Name) → y ≡ own a → IsRedeclaredAt s y None
    own-none a e p b (q, is, from) = own-differs a q b (sym e ∙ is)

    pub none-derived : IsRedeclaredAt s y None → ArePlacesOf s (Redeclares s y) []
    none-derived none = no-place s (Redeclares s y) (λ p h. none p.0 p.1 h)

    only-there : (j : ℕ) (h : IsRedeclaredAt s y (Some j)) (p : Place) → Redeclares s y p ↔ (p ≡ (h.0, h.1))
    only-there j (o, b, ent, number, here, only) p = (
      (λ m. let same = only p.0 p.1 m in place-is p o b (sym same.0) (sym same.1)),
      (λ e. subst (Redeclares s y) (sym e) here),
    )

    pub derived-there : (j : ℕ) (h : IsRedeclaredAt s y (Some j)) (ns : List ℕ)
        → ((q : ℕ) → (has ns q ≡ true) ↔ HasPlace s (h.0, h.1) q) → ArePlacesOf s (Redeclares s y) ns
    derived-there j h ns at = one-place s (Redeclares s y) (h.0, h.1) ns (only-there j h) at

    module _ (q a : Name) (is : y ≡ redeclared q a) where
      not-own : (p : Place) → y ≡ own p.1 → ⊥
      not-own p e = own-differs p.1 q a (sym e ∙ is)

      called : (j : ℕ) (h : IsRedeclaredAt s y (Some j)) → h.1 ≡ a
      called j (o, b, ent, number, here, only) =
          sym (named-so s q a o b (subst (λ z. IsRedeclaration s z o b) is here))

      pub none-spoken : (n : Name) (k : DataType) → IsRedeclaredAt s y None → ArePlacesOf s (SpeaksOf s n k y) []
      none-spoken n k none = no-place s (SpeaksOf s n k y) lacks
        where
          lacks : (p : Place) → SpeaksOf s n k y p → ⊥
          lacks p (inl (e, f)) = not-own p f
          lacks p (inr (h, shape)) = none p.0 p.1 h

      pub other-shape : (n : Name) (k : DataType) (j : ℕ)
          (h : IsRedeclaredAt s y (Some j)) → (HasFirstShape s h.0 a k → ⊥)
          → ArePlacesOf s (SpeaksOf s n k y) []
      other-shape n k j h never = no-place s (SpeaksOf s n k y) lacks
        where
          lacks : (p : Place) → SpeaksOf s n k y p → ⊥
          lacks p (inl (e, f)) = not-own p f
          lacks p (inr (m, shape)) =
              let (o, b, ent, number, here, only) = h in
              let same = only p.0 p.1 m in
              never (subst (λ z. HasFirstShape s o z k)
              (sym (named-so s q a p.0 p.1 (subst (λ z. IsRedeclaration s z p.0 p.1) is m)))
              (subst (λ z. HasFirstShape s z p.1 k) same.0 shape))

      pub spoken-there : (n : Name) (k : DataType) (j : ℕ)
          (h : IsRedeclaredAt s y (Some j)) → HasFirstShape s h.0 a k → (ns : List ℕ)
          → ((x : ℕ) → (has ns x ≡ true) ↔ HasPlace s (h.0, a) x) → ArePlacesOf s (SpeaksOf s n k y) ns
      spoken-there n k j h shape ns at =
          one-place s (SpeaksOf s n k y) (h.0, a) ns (λ p. (forth p, back p)) at
        where
          forth : (p : Place) → SpeaksOf s n k y p → p ≡ (h.0, a)
          forth p (inl (e, f)) = absurd (not-own p f)
          forth p (inr (m, sh)) = (only-there j h p).0 m ∙ λ i. (h.0, called j h i)

          back : (p : Place) → p ≡ (h.0, a) → SpeaksOf s n k y p
          back p e =
              inr (
                (only-there j h p).1 (e ∙ λ i. (h.0, sym (called j h) i)),
                subst (λ (z : Place). HasFirstShape s z.0 z.1 k) (sym e) shape,
              )

  -- found in the row of the entity that declares what is redeclared
  module _ (rows : Graph) (own : ArePlaceRows (all_places s) s.declarations rows) (all : List Place)
      (is : all ≡ all_places s) (y : Attribute) (q a : Name) (named : y ≡ redeclared q a) (j : ℕ) (h : IsRedeclaredAt s y (Some j))
      (o : Option ℕ) (found : o ≡ find (λ x. has_name a (slice_get all x)) (next rows j)) where
    there : (x : ℕ) → (has (at_most_one o) x ≡ true) ↔ HasPlace s (h.0, a) x
    there x =
        let (p, b, ent, number, here, only) = h in
        own-found s r rows own p a j ent number o
        (found ∙ ap (λ ps. find (λ x. has_name a (slice_get ps x)) (next rows j)) is) x

    pub derived-found : ArePlacesOf s (Redeclares s y) (at_most_one o)
    derived-found =
        derived-there y j h (at_most_one o) (λ x. subst (λ b. (has (at_most_one o) x ≡ true) ↔ HasPlace s (h.0, b) x)
        (sym (called y q a named j h)) (there x))

    pub spoken-found : (n : Name) (k : DataType) → HasFirstShape s h.0 a k
        → ArePlacesOf s (SpeaksOf s n k y) (at_most_one o)
    spoken-found n k shape = spoken-there y q a named n k j h shape (at_most_one o) there

-- own attributes in turn
pub own-place : (ys : List Attribute) (m : ℕ) (a : Name) → slice_get ys m ≡ Some (own a)
    → slice_get (own_names ys) (length (own_names (take m ys))) ≡ Some a
own-place [] m a h = absurd (cc)
own-place (y ∷ ys) zero a h = front y (head y h)
  where
    head : (y : Attribute) → Some y ≡ Some (own a) → y ≡ own a
    head y e = cc

    front : (y : Attribute) → y ≡ own a → slice_get (own_names (y ∷ ys)) 0 ≡ Some a
    front (own b) e = ap Some (own-is b a e)
    front (redeclared q b) e = absurd (own-differs a q b (sym e))
own-place (own b ∷ ys) (suc m) a h = own-place ys m a h
own-place (redeclared q b ∷ ys) (suc m) a h = own-place ys m a h

pub own-more : (ys : List Attribute) (m : ℕ) (y : Attribute) → slice_get ys m ≡ Some y
    → length (own_names (take (m + 1) ys)) ≡ length (own_names (take m ys)) + length (own_names (y ∷ []))
own-more [] m y h = absurd (cc)
own-more (z ∷ ys) zero y h = front z (head z h)
  where
    head : (z : Attribute) → Some z ≡ Some y → z ≡ y
    head z e = cc

    front : (z : Attribute) → z ≡ y → length (own_names (z ∷ [])) ≡ 0 + length (own_names (y ∷ []))
    front z e = ap (λ x. length (own_names (x ∷ []))) e ∙ none-before (length (own_names (y ∷ [])))
      where
        none-before : (m : ℕ) → m ≡ 0 + m
        none-before m = omega arith
own-more (own b ∷ ys) (suc m) y h =
    let next : suc m + 1 ≡ suc (m + 1) = omega arith in
    ap (λ k. length (own_names (take k (own b ∷ ys)))) next
    ∙ ap suc (own-more ys m y h)
    ∙ more (length (own_names (take m ys))) (length (own_names (y ∷ [])))
  where
    more : (i k : ℕ) → suc (i + k) ≡ suc i + k
    more i k = omega arith
own-more (redeclared q b ∷ ys) (suc m) y h =
    let next : suc m + 1 ≡ suc (m + 1) = omega arith in
    ap (λ k. length (own_names (take k (redeclared q b ∷ ys)))) next ∙ own-more ys m y h

pub own-here : (s : Schema) (n : Name) (row : List ℕ) (first next : ℕ) (ys : List Attribute) (m : ℕ) (y : Attribute)
    → AreOwnAt s n row first (own_names ys) → slice_get ys m ≡ Some y
    → next ≡ first + length (own_names (take m ys)) → IsOwnAt s n y (slice_get row next)
own-here s n row first next ys m y h at e a is =
    let (q, standing, here) = h (length (own_names (take m ys))) a (own-place ys m a (at ∙ ap Some is)) in
    (q, ap (slice_get row) e ∙ standing, here)
