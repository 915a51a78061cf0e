-- Who is on a side of an inverse attribute.
use Rattle.std.specs.Prelude.{◌≡◌, ℕ, zero, suc, ◌<◌, ◌==◌, Bool, IsTrue, true, false, cond, List, [], ◌∷◌, flat_map, Option, Some, None, ◌⊎◌}
use Rattle.std.specs.List.{IsDistinct, repeat}
use Rattle.std.proofs.Common.{refl, sym, ◌∙◌, ap, subst, inl, inr, arith, eqb-true, eq-eqb}
use Rattle.std.proofs.lemmas.Map.Keys.{IsDistinct-head, IsDistinct-tail}
use Rattle.step_values.specs.Values.{Value}
use Rattle.schema_semantics.specs.Names.{Name, OneOf, Among}
use Rattle.schema_semantics.proofs.Lists.{among-flat, from-flat}
use Rattle.conformance.specs.ParameterFits.{is_listed}
use Rattle.conformance.specs.Populations.{Instance, slot_at, instance_at, types_in, types_at}
use Rattle.conformance.specs.Rules.{Gathering, alone, in_set, in_bag, InverseAttribute}
use Rattle.conformance.specs.Referrers.{times_at, references, holds, held, inverse_value}
use Rattle.conformance.specs.Pins.{OccursAt, RefersByInverse, IsInverseSide}
use Rattle.conformance.specs.RuleLaws.{names, InverseSidesAreHeld}
use Rattle.conformance.proofs.Standing.{one_is, found}
use Rattle.conformance.proofs.Counting.{references_are_counted, differs}

-- one that refers is held at least once, and the other way round
held_once : (g : Gathering) (n : ℕ) → 0 < n → 0 < holds g n
held_once alone n h = omega (arith, h)
held_once (in_set lower upper) n h = omega (arith, h)
held_once (in_bag lower upper) n h = h

refers_once : (g : Gathering) (n : ℕ) → 0 < holds g n → 0 < n
refers_once alone n h = omega (arith, h)
refers_once (in_set lower upper) n h = omega (arith, h)
refers_once (in_bag lower upper) n h = h

at_once : (y : ℕ) (o : Option Value) → OccursAt y o → 0 < times_at y o
at_once y None h = elim h [ ]
at_once y (Some v) h = (references_are_counted y v).0 h

once_at : (y : ℕ) (o : Option Value) → 0 < times_at y o → OccursAt y o
once_at y None h = absurd (omega (arith, h))
once_at y (Some v) h = (references_are_counted y v).1 h

among_repeated : (n w : ℕ) → 0 < n → Among w (repeat n (w ∷ []))
among_repeated zero w h = absurd (omega (arith, h))
among_repeated (suc n) w h = inl refl

repeated_among : (n w y : ℕ) → Among y (repeat n (w ∷ [])) → (0 < n) × (w ≡ y)
repeated_among zero w y m = elim m [ ]
repeated_among (suc n) w y (inl e) = (omega arith, e)
repeated_among (suc n) w y (inr m) = (omega arith, (repeated_among n w y m).1)

-- an instance stands at its own name
pub at_own_name : (x : Instance) (is : List Instance) → IsDistinct (◌==◌) (names is) → Among x is
    → instance_at is x.name ≡ Some x
at_own_name x [] h m = elim m [ ]
at_own_name x (z ∷ is) h (inl e) =
    subst (λ (w : Instance). cond (z.name == w.name) (Some z) (instance_at is w.name) ≡ Some w) e
    (ap (λ (b : Bool). cond b (Some z) (instance_at is z.name)) (eq-eqb z.name z.name refl))
at_own_name x (z ∷ is) h (inr m) =
    ap (λ (b : Bool). cond b (Some z) (instance_at is x.name))
    (differs z.name x is (IsDistinct-head (◌==◌) z.name (names is) h) m)
    ∙ at_own_name x is (IsDistinct-tail (◌==◌) z.name (names is) h) m

pub named_at : (y : ℕ) (is : List Instance) (n : Name) → IsTrue (is_listed n (types_at is y))
    → (x : Instance) × Among x is × (x.name ≡ y) × IsTrue (is_listed n x.types)
named_at y [] n h = absurd (cc)
named_at y (x ∷ is) n h = by (x.name == y) refl h (named_at y is n)
  where
    by : (b : Bool) → (x.name == y) ≡ b → IsTrue (is_listed n (types_in (cond b (Some x) (instance_at is y))))
        → (IsTrue (is_listed n (types_at is y)) → (z : Instance) × Among z is × (z.name ≡ y) × IsTrue (is_listed n z.types))
        → (z : Instance) × Among z (x ∷ is) × (z.name ≡ y) × IsTrue (is_listed n z.types)
    by true e k later = (x, inl refl, eqb-true x.name y e, k)
    by false e k later = let z = later k in (z.0, inr z.1, z.2, z.3)

module _ (is : List Instance) (i : InverseAttribute) where
  -- x refers to z exactly where the inverse attribute of z holds it
  is_held : (x z : Instance) → IsDistinct (◌==◌) (names is) → Among x is → Among z is → RefersByInverse i x z
      → Among x.name (inverse_value is i z.name)
  is_held x z distinct m n (referrer, occurs, entity) =
      subst (λ (b : Bool). Among x.name (cond b (flat_map (held i z.name) is) [])) (sym declares)
      (among-flat (held i z.name) x x.name is m held_here)
    where
      declares : is_listed i.entity (types_at is z.name) ≡ true
      declares = subst (λ o. is_listed i.entity (types_in o) ≡ true) (sym (at_own_name z is distinct n)) entity

      held_here : Among x.name (held i z.name x)
      held_here =
          subst (λ (b : Bool). Among x.name (cond b (repeat (holds i.gathering (references x i.inverted z.name))
          (x.name ∷ [])) [])) (sym referrer)
          (among_repeated (holds i.gathering (references x i.inverted z.name)) x.name
          (held_once i.gathering (references x i.inverted z.name)
          (at_once z.name (slot_at x.slots i.inverted) occurs)))

  refers_from : (x z : Instance) (y : ℕ) → IsTrue (is_listed i.entity z.types) → Among y (held i z.name x)
      → (x.name ≡ y) × RefersByInverse i x z
  refers_from x z y entity m = by (is_listed i.referrer x.types) refl m
    where
      by : (b : Bool) → is_listed i.referrer x.types ≡ b
          → Among y (cond b (repeat (holds i.gathering (references x i.inverted z.name)) (x.name ∷ [])) [])
          → (x.name ≡ y) × RefersByInverse i x z
      by true e k =
          let parts = repeated_among (holds i.gathering (references x i.inverted z.name)) x.name y k in (
            parts.1,
            (
              e,
              once_at z.name (slot_at x.slots i.inverted)
                  (refers_once i.gathering (references x i.inverted z.name) parts.0),
              entity,
            ),
          )
      by false e k = elim k [ ]

  held_refers : (y z : ℕ) → Among y (inverse_value is i z)
      → (x : Instance) × (w : Instance) × Among x is × Among w is × (x.name ≡ y) × (w.name ≡ z) × RefersByInverse i x w
  held_refers y z m = by (is_listed i.entity (types_at is z)) refl m
    where
      by : (b : Bool) → is_listed i.entity (types_at is z) ≡ b → Among y (cond b (flat_map (held i z) is) [])
          → (x : Instance) × (w : Instance) × Among x is × Among w is × (x.name ≡ y) × (w.name ≡ z) × RefersByInverse i x w
      by true e k =
          let w = named_at z is i.entity e in
          let x = from-flat (held i z) y is k in
          let h = refers_from x.0 w.0 y w.3 (subst (λ u. Among y (held i u x.0)) (sym w.2) x.2) in
          (x.0, w.0, x.1, w.1, h.0, w.2, h.1)
      by false e k = elim k [ ]

  abbrev Pair : ℕ → Instance → Instance → Type 0
  Pair y x z = RefersByInverse i x z × ((x.name ≡ y) ⊎ (z.name ≡ y))

  side : (x z : Instance) (y : ℕ) → Among x is → Among z is → Pair y x z → IsInverseSide is y i
  side x z y m n h =
      one_is (λ (v : Instance). OneOf (λ (w : Instance). Pair y v w) is) x is m
      (one_is (λ (w : Instance). Pair y x w) z is n h)

  abbrev Held : ℕ → Type 0
  Held y = (z : ℕ) × (Among z (inverse_value is i y) ⊎ Among y (inverse_value is i z))

  sides_held : (y : ℕ) → IsDistinct (◌==◌) (names is) → IsInverseSide is y i → Held y
  sides_held y distinct h =
      let x = found (λ (v : Instance). OneOf (λ (w : Instance). Pair y v w) is) is h in
      let z = found (λ (w : Instance). Pair y x.0 w) is x.2 in
      by x.0 z.0 (is_held x.0 z.0 distinct x.1 z.1 z.2.0) z.2.1
    where
      by : (x z : Instance) → Among x.name (inverse_value is i z.name) → (x.name ≡ y) ⊎ (z.name ≡ y) → Held y
      by x z m (inl e) = (z.name, inr (subst (λ w. Among w (inverse_value is i z.name)) e m))
      by x z m (inr e) = (x.name, inl (subst (λ w. Among x.name (inverse_value is i w)) e m))

  held_sides : (y : ℕ) → Held y → IsInverseSide is y i
  held_sides y (z, inl m) = let h = held_refers z y m in side h.0 h.1 y h.2 h.3 (h.6, inr h.5)
  held_sides y (z, inr m) = let h = held_refers y z m in side h.0 h.1 y h.2 h.3 (h.6, inl h.4)

pub inverse_sides_are_held : InverseSidesAreHeld
inverse_sides_are_held is i y distinct = (sides_held is i y distinct, held_sides is i y)
