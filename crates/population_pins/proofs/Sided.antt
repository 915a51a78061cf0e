-- The instances on the sides of inverse attributes are those that they hold, and those for which they hold one.
use Rattle.std.specs.Prelude.{◌≡◌, ℕ, suc, zero, ◌+◌, ◌==◌, Bool, true, false, cond, IsTrue, List, [], ◌∷◌, map, flat_map, Option, None, Some, slice_get, ◌⊎◌, ◌↔◌}
use Rattle.std.specs.List.{IsDistinct}
use Rattle.std.proofs.Common.{refl, sym, ap, subst, ◌∙◌, inl, inr, arith}
use Rattle.graphs.specs.Graphs.{has}
use Rattle.express_syntax.specs.Schemas.{Schema}
use Rattle.express_syntax.specs.Profile.{Every}
use Rattle.schema_semantics.specs.Names.{OneOf, Among}
use Rattle.schema_underlying_types.specs.BaseViews.{name_at}
use Rattle.conformance.specs.ParameterFits.{is_listed}
use Rattle.conformance.specs.Populations.{Instance, types_at}
use Rattle.population_rows.specs.declared.form.Form.{Form}
use Rattle.population_forms.proofs.Naming.{among-is}
use Rattle.conformance.specs.RuleLaws.{names}
use Rattle.conformance.specs.Pins.{IsInverseSide}
use Rattle.conformance.specs.Referrers.{held, inverse_value}
use Rattle.conformance.specs.Rules as rules
use Rattle.conformance.proofs.Holding.{named_at, inverse_sides_are_held}
use Rattle.conformance.proofs.Standing.{one_is, found}
use Rattle.schema_constraints.specs.RuleViews.{inverse_seen, IsNumberedInverse}
use Rattle.schema_constraints.specs.declared.inverses.InverseAttribute.{InverseAttribute}
use Rattle.population_inverses.specs.Extents.{inverse_value_by}
use Rattle.population_inverses.specs.steps.Inverses.{numbers_by, row_by}
use Rattle.typed_populations.specs.Rows.{instance_seen}
use Rattle.typed_populations.specs.PopulationTables.{form_among, AreNumbered}
use Rattle.step_values.specs.Values.{Values}
use Rattle.population_pins.specs.steps.Sides.{IsOnSide, IsOnSideOf}

-- y is on a side of an inverse attribute that this instance has
abbrev pub IsSideOf : List Instance → ℕ → Instance → rules.InverseAttribute → Type 0
IsSideOf is y x v = IsTrue (is_listed v.entity x.types) × IsOnSide x.name (inverse_value is v x.name) y

-- where some are held
pub on-side : (name y : ℕ) (ns : List ℕ) → (ns ≡ [] → ⊥) → ((y ≡ name) ⊎ Among y ns) ↔ IsOnSide name ns y
on-side name y [] some = absurd (some refl)
on-side name y (n ∷ ns) some = (
  (λ t. elim t [ inl e ↦ inl (inr e) | inr m ↦ to-side (n ∷ ns) m ]),
  (λ h. from-side (n ∷ ns) h),
)
  where
    to-side : (ms : List ℕ) → Among y ms → IsOnSide name ms y
    to-side [] m = m
    to-side (k ∷ ms) (inl e) = inl (inl e)
    to-side (k ∷ ms) (inr m) = inr (to-side ms m)

    from-side : (ms : List ℕ) → IsOnSide name ms y → (y ≡ name) ⊎ Among y ms
    from-side [] h = absurd h
    from-side (k ∷ ms) (inl (inl e)) = inr (inl e)
    from-side (k ∷ ms) (inl (inr e)) = inl e
    from-side (k ∷ ms) (inr h) = elim (from-side ms h) [ inl e ↦ inl e | inr m ↦ inr (inr m) ]

-- The instances on a side of an inverse attribute, by the numbers of the attributes.
module _ (s : Schema) (is : List Instance) (all : List InverseAttribute) (y name section : ℕ) (vs : Values) where
  abbrev Side : Option InverseAttribute → Type 0
  Side o = IsOnSide name (inverse_value_by s o is name) y

  abbrev Seen : Option Form → Instance
  Seen o = instance_seen s name section o vs

  none-of : (inverses : List InverseAttribute) → OneOf (IsSideOf is y (Seen None)) (map (inverse_seen s) inverses) → ⊥
  none-of [] h = h
  none-of (i ∷ inverses) (inl (e, k)) = absurd (cc)
  none-of (i ∷ inverses) (inr h) = none-of inverses h

  module _ (x : Form) (numbered : AreNumbered s x) where
    has-it : (i : InverseAttribute) → IsNumberedInverse s i
        → is_listed (name_at s i.entity) (map (name_at s) x.types.items) ≡ has x.types.items i.entity
    has-it i h = among-is s (name_at s i.entity) i.entity h.entity x.types.items numbered

    numbers-are : (inverses : List InverseAttribute) (n : ℕ)
        → ((k : ℕ) → slice_get all (n + k) ≡ slice_get inverses k) → Every (IsNumberedInverse s) inverses
        → OneOf (λ k. Side (slice_get all k)) (numbers_by inverses n x)
        ↔ OneOf (IsSideOf is y (Seen (Some x))) (map (inverse_seen s) inverses)
    numbers-are [] n at each = ((λ h. h), (λ h. h))
    numbers-are (i ∷ inverses) n at each =
        by (has x.types.items i.entity) (has-it i each.0)
        (numbers-are inverses (suc n) (λ k. ap (slice_get all) (omega arith) ∙ at (suc k)) each.1)
      where
        here : slice_get all n ≡ Some i
        here = ap (slice_get all) (omega arith) ∙ at 0

        Rest : Type 0
        Rest = OneOf (IsSideOf is y (Seen (Some x))) (map (inverse_seen s) inverses)

        rest : List ℕ
        rest = numbers_by inverses (suc n) x

        by : (b : Bool) → is_listed (name_at s i.entity) (map (name_at s) x.types.items) ≡ b
            → OneOf (λ k. Side (slice_get all k)) rest ↔ Rest
            → OneOf (λ k. Side (slice_get all k)) (cond b (n ∷ rest) rest)
            ↔ (IsSideOf is y (Seen (Some x)) (inverse_seen s i) ⊎ Rest)
        by true e more = (
          (λ t. elim t [ inl k ↦ inl (e, subst Side here k) | inr k ↦ inr (more.0 k) ]),
          (λ t. elim t [ inl (f, k) ↦ inl (subst Side (sym here) k) | inr k ↦ inr (more.1 k) ]),
        )
        by false e more = (
          (λ k. inr (more.0 k)),
          (λ t. elim t [ inl (f, k) ↦ absurd (cc) | inr k ↦ more.1 k ]),
        )

  pub row-is : Every (IsNumberedInverse s) all → (forms : List Form) → Every (AreNumbered s) forms → (o : Option ℕ)
      → IsOnSideOf s is all name (row_by (map (numbers_by all 0) forms) o) y
      ↔ OneOf (IsSideOf is y (Seen (form_among forms o))) (map (inverse_seen s) all)
  row-is each forms numbered None = ((λ n. absurd n), (λ h. absurd (none-of all h)))
  row-is each [] numbered (Some n) = ((λ n. absurd n), (λ h. absurd (none-of all h)))
  row-is each (x ∷ forms) numbered (Some zero) =
      numbers-are x numbered.0 all 0 (λ k. ap (slice_get all) (omega arith)) each
  row-is each (x ∷ forms) numbered (Some (suc n)) = row-is each forms numbered.1 (Some n)

-- Of all instances they are those on the sides.
module _ (is : List Instance) (distinct : IsDistinct (◌==◌) (names is)) (y : ℕ) where
  declares : (v : rules.InverseAttribute) (w u : ℕ) → Among w (inverse_value is v u)
      → IsTrue (is_listed v.entity (types_at is u))
  declares v w u m = by (is_listed v.entity (types_at is u)) m
    where
      by : (b : Bool) → Among w (cond b (flat_map (held v u) is) []) → b ≡ true
      by true k = refl
      by false k = absurd k

  forth : (vs : List rules.InverseAttribute) → OneOf (λ x. OneOf (IsSideOf is y x) vs) is
      → OneOf (IsInverseSide is y) vs
  forth vs h =
      let x = found (λ z. OneOf (IsSideOf is y z) vs) is h in
      let v = found (IsSideOf is y x.0) vs x.2 in
      let w = found (λ z. (z ≡ y) ⊎ (y ≡ x.0.name)) (inverse_value is v.0 x.0.name) v.2.1 in
      one_is (IsInverseSide is y) v.0 vs v.1 (by x.0 v.0 w.0 w.1 w.2)
    where
      by : (x : Instance) (v : rules.InverseAttribute) (w : ℕ) → Among w (inverse_value is v x.name)
          → (w ≡ y) ⊎ (y ≡ x.name) → IsInverseSide is y v
      by x v w m (inl e) =
          (inverse_sides_are_held is v y distinct).1
          (x.name, inr (subst (λ u. Among u (inverse_value is v x.name)) e m))
      by x v w m (inr e) =
          (inverse_sides_are_held is v y distinct).1
          (w, inl (subst (λ u. Among w (inverse_value is v u)) (sym e) m))

  back-one : (v : rules.InverseAttribute) → IsInverseSide is y v → (x : Instance) × Among x is × IsSideOf is y x v
  back-one v h = by ((inverse_sides_are_held is v y distinct).0 h)
    where
      by : ((z : ℕ) × (Among z (inverse_value is v y) ⊎ Among y (inverse_value is v z)))
          → (x : Instance) × Among x is × IsSideOf is y x v
      by (z, inl m) =
          let x = named_at y is v.entity (declares v z y m) in (
            x.0,
            x.1,
            (
              x.3,
              one_is (λ u. (u ≡ y) ⊎ (y ≡ x.0.name)) z (inverse_value is v x.0.name)
                  (subst (λ u. Among z (inverse_value is v u)) (sym x.2) m) (inr (sym x.2)),
            ),
          )
      by (z, inr m) =
          let x = named_at z is v.entity (declares v y z m) in (
            x.0,
            x.1,
            (
              x.3,
              one_is (λ u. (u ≡ y) ⊎ (y ≡ x.0.name)) y (inverse_value is v x.0.name)
                  (subst (λ u. Among y (inverse_value is v u)) (sym x.2) m) (inl refl),
            ),
          )

  back : (vs : List rules.InverseAttribute) → OneOf (IsInverseSide is y) vs
      → OneOf (λ x. OneOf (IsSideOf is y x) vs) is
  back vs h =
      let v = found (IsInverseSide is y) vs h in
      let x = back-one v.0 v.2 in
      one_is (λ z. OneOf (IsSideOf is y z) vs) x.0 is x.1 (one_is (IsSideOf is y x.0) v.0 vs v.1 x.2)

  pub sides-are : (vs : List rules.InverseAttribute)
      → OneOf (λ x. OneOf (IsSideOf is y x) vs) is ↔ OneOf (IsInverseSide is y) vs
  sides-are vs = (forth vs, back vs)
