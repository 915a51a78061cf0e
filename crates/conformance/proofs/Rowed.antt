-- Rows, and the instances that they are of.
use Rattle.std.specs.Prelude.{◌≡◌, ℕ, ◌==◌, Bool, true, false, cond, List, [], ◌∷◌, flat_map, Option, Some, None}
use Rattle.std.specs.List.{IsDistinct}
use Rattle.std.proofs.Common.{refl, ap, sym, subst, ◌∙◌, inl, inr, eqb-true, eq-eqb}
use Rattle.step_values.specs.Values.{Value}
use Rattle.step_values.specs.References.{EachReference, EachReferenceOf, EachBagReference, EachBagReferenceOf}
use Rattle.step_values.proofs.References.{each_weaker}
use Rattle.value_equality.specs.Rows as rows
use Rattle.value_equality.specs.Rows.{Row, row_at, IsName, IsPopulation}
use Rattle.value_equality.proofs.Lookup.{row_cases, row_here, row_later}
use Rattle.express_syntax.specs.Schemas.{Schema}
use Rattle.express_syntax.specs.Profile.{Every}
use Rattle.schema_semantics.specs.Names.{Among}
use Rattle.schema_semantics.specs.Attributes.{Place}
use Rattle.schema_semantics.proofs.Lists.{among-map, every-at}
use Rattle.conformance.specs.Entities.{own_places_of}
use Rattle.conformance.specs.Populations.{Slot, Instance, instance_at, slot_at}
use Rattle.conformance.specs.PlainRows.{or_unset, values_at, IsRowOf, AreRowsOf}
use Rattle.conformance.specs.RuleLaws.{names, IsClosed}
use Rattle.conformance.specs.RowLaws.{RowsHaveNames, BagsOfRowsArePinned}
use Rattle.conformance.proofs.Led.{at_name, is_name, at_place}
use Rattle.conformance.proofs.Pinning.{bag_references_are_pinned}

-- what holds of the references of each value holds of those of a row
references_of : (R : ℕ → Type 0) (xs : List Slot) → ((x : Slot) → Among x xs → EachReference R x.value)
    → (ps : List Place) → EachReferenceOf R (values_at xs ps)
references_of R xs f [] = tt
references_of R xs f (p ∷ ps) = (by (slot_at xs p) refl, references_of R xs f ps)
  where
    by : (o : Option Value) → slot_at xs p ≡ o → EachReference R (or_unset o)
    by None e = tt
    by (Some v) e = let x = at_place p xs v e in subst (EachReference R) x.3 (f x.0 x.1)

-- What holds of the references in bags of each value holds of those of a row.
bags_at : (R : ℕ → Type 0) (xs : List Slot) → ((x : Slot) → Among x xs → EachBagReference R x.value)
    → (ps : List Place) → EachBagReferenceOf R (values_at xs ps)
bags_at R xs f [] = tt
bags_at R xs f (p ∷ ps) = (by (slot_at xs p) refl, bags_at R xs f ps)
  where
    by : (o : Option Value) → slot_at xs p ≡ o → EachBagReference R (or_unset o)
    by None e = tt
    by (Some v) e = let x = at_place p xs v e in subst (EachBagReference R) x.3 (f x.0 x.1)

module _ (s : Schema) where
  -- the places of a row
  abbrev pub places : Row → List Place
  places p = flat_map (own_places_of s) p.types

  -- the row of an instance
  pub row_of : (is : List Instance) (P : List Row) → AreRowsOf s is P → (y : ℕ) (x : Instance)
      → instance_at is y ≡ Some x → (p : Row) × (row_at P y ≡ Some p) × IsRowOf s x p
  row_of [] [] h y x e = absurd (cc)
  row_of [] (r ∷ P) h y x e = absurd h
  row_of (i ∷ is) [] h y x e = absurd h
  row_of (i ∷ is) (r ∷ P) h y x e = by (i.name == y) refl e (row_of is P h.1 y x)
    where
      by : (b : Bool) → (i.name == y) ≡ b → cond b (Some i) (instance_at is y) ≡ Some x
          → (instance_at is y ≡ Some x → (p : Row) × (row_at P y ≡ Some p) × IsRowOf s x p)
          → (p : Row) × (row_at (r ∷ P) y ≡ Some p) × IsRowOf s x p
      by true f k later =
          let same : i ≡ x = cc in (
            r,
            row_here r P y (h.0.name ∙ eqb-true i.name y f),
            subst (λ (j : Instance). IsRowOf s j r) same h.0,
          )
      by false f k later =
          let rest = later k in
          (rest.0, row_later r P y (ap (λ (n : ℕ). n == y) h.0.name ∙ f) ∙ rest.1, rest.2)

  -- the instance of a row
  pub instance_of : (is : List Instance) (P : List Row) → AreRowsOf s is P → (y : ℕ) (p : Row) → row_at P y ≡ Some p
      → (x : Instance) × (instance_at is y ≡ Some x) × IsRowOf s x p
  instance_of [] [] h y p e = absurd (cc)
  instance_of [] (r ∷ P) h y p e = absurd h
  instance_of (i ∷ is) [] h y p e = absurd h
  instance_of (i ∷ is) (r ∷ P) h y p e =
      elim (row_cases r P y p e) [
        | inl here ↦ (
          i,
          ap (λ (b : Bool). cond b (Some i) (instance_at is y)) (eq-eqb i.name y (sym h.0.name ∙ here.0)),
          subst (IsRowOf s i) here.1 h.0,
        )
        | inr there ↦ (
            let later = instance_of is P h.1 y p there.1 in (
              later.0,
              ap (λ (b : Bool). cond b (Some i) (instance_at is y)) (ap (λ (n : ℕ). n == y) (sym h.0.name) ∙ there.0)
                  ∙ later.1,
              later.2,
            )
            )
      ]

  -- both have the same names
  pub same_names : (is : List Instance) (P : List Row) → AreRowsOf s is P → rows.names P ≡ names is
  same_names [] [] h = refl
  same_names [] (r ∷ P) h = absurd h
  same_names (i ∷ is) [] h = absurd h
  same_names (i ∷ is) (r ∷ P) h =
      let first = h.0.name in
      let rest = same_names is P h.1 in
      λ k. first k ∷ rest k

  module _ (is : List Instance) (P : List Row) (of : AreRowsOf s is P) where
    pub distinct : IsPopulation P → IsDistinct (◌==◌) (names is)
    distinct population = subst (IsDistinct (◌==◌)) (same_names is P of) population.distinct

    pub among_names : (y : ℕ) → IsName P y → Among y (names is)
    among_names y n =
        let x = instance_of is P of y n.0 n.1 in
        let known = at_name y is x.0 x.1 in
        subst (λ m. Among m (names is)) known.1 (among-map (λ (i : Instance). i.name) x.0 is known.0)

    pub names_row : (y : ℕ) → Among y (names is) → IsName P y
    names_row y m =
        let x = is_name y is m in
        let p = row_of is P of y x.0 x.1 in
        (p.0, p.1)

    abbrev IsThere : ℕ → Type 0
    IsThere y = Among y (names is)

    -- where each reference names an instance, each reference of a row names a row
    pub are_population : IsDistinct (◌==◌) (names is) → IsClosed is → IsPopulation P
    are_population once closed = record {
      distinct = subst (IsDistinct (◌==◌)) (sym (same_names is P of)) once;
      closed = λ y p e.
          let i = instance_of is P of y p e in
          let each = every-at (λ (j : Instance). Every (λ (x : Slot). EachReference IsThere x.value) j.slots) i.0 is
          closed (at_name y is i.0 i.1).0 in
          subst (EachReferenceOf (IsName P)) (sym i.2.values)
          (references_of (IsName P) i.0.slots (λ x m. each_weaker IsThere (IsName P) names_row x.value
          (every-at (λ (z : Slot). EachReference IsThere z.value) x i.0.slots each m))
          (places p));
    }

pub rows_have_names : RowsHaveNames
rows_have_names s is P of = same_names s is P of

pub bags_of_rows_are_pinned : BagsOfRowsArePinned
bags_of_rows_are_pinned s d en rules chosen is P pinned of weak y p e =
    let i = instance_of s is P of y p e in
    subst (EachBagReferenceOf (λ y. pinned y ≡ true)) (sym i.2.values)
    (bags_at (λ y. pinned y ≡ true) i.0.slots
    (bag_references_are_pinned s d en rules chosen is pinned weak i.0 (at_name y is i.0 i.1).0)
    (places s p))
