-- What the passes over a population pin together.
use Rattle.std.specs.Prelude.{◌≡◌, ℕ, ◌==◌, Bool, true, false, cond, IsTrue, List, [], ◌∷◌, Option, None, Some, ◌⊎◌, ◌||◌, ◌↔◌, Vec}
use Rattle.std.specs.BTreeMap.{is_at}
use Rattle.std.specs.BTreeSet.{BTreeSet}
use Rattle.std.specs.List.{AllZip, IsDistinct, list_any}
use Rattle.std.specs.Ordering.{nat_cmp}
use Rattle.std.proofs.Common.{refl, sym, ap, subst, ◌∙◌, inl, inr, Global}
use Rattle.std.proofs.lemmas.Bool.{eqb-true, false≢true}
use Rattle.express_syntax.specs.Schemas.{Schema}
use Rattle.schema_semantics.specs.Names.{Name, OneOf, Among}
use Rattle.schema_semantics.specs.Attributes.{Place}
use Rattle.conformance.specs.Choices.{MergeOptions}
use Rattle.conformance.specs.Bases.{Domain}
use Rattle.conformance.specs.Entities.{Entities}
use Rattle.conformance.specs.ParameterFits.{is_listed}
use Rattle.conformance.specs.Populations.{Instance, slot_at, instance_at, types_in, types_at}
use Rattle.conformance.specs.CollectionMembers.{StandsInBag}
use Rattle.conformance.specs.RuleLaws.{names}
use Rattle.conformance.specs.Pins.{HasUnchosenLeaf, OccursAt, IsInKey, IsInverseSide, StandsInsideUnique, IsPinnedElsewhere, IsWeaklyPinned}
use Rattle.conformance.specs.Rules.{UniqueRule, Rules}
use Rattle.conformance.proofs.Holding.{at_own_name, named_at}
use Rattle.conformance.proofs.Standing.{one_is, found}
use Rattle.value_equality.specs.Maps.{is_pinned}
use Rattle.population_pins.specs.steps.Pinning.{has_name, Pins}
use Rattle.population_pins.specs.steps.Rows.{StandsInKey, PinsByForm}

-- the instance of a name
at-some : (y : ℕ) (is : List Instance) (x : Instance) → instance_at is y ≡ Some x → Among x is × (y ≡ x.name)
at-some y [] x e = absurd (cc)
at-some y (z ∷ is) x e = by (z.name == y) refl e (at-some y is x)
  where
    by : (b : Bool) → (z.name == y) ≡ b → cond b (Some z) (instance_at is y) ≡ Some x
        → (instance_at is y ≡ Some x → Among x is × (y ≡ x.name)) → Among x (z ∷ is) × (y ≡ x.name)
    by true t e more = let same : z ≡ x = cc in (inl same, sym (eqb-true z.name y t) ∙ ap (λ (w : Instance). w.name) same)
    by false t e more = let (there, named) = more e in (inr there, named)

at-types : (y : ℕ) (is : List Instance) (P : List Name → Type 0) → (P [] → ⊥) → P (types_at is y)
    → (x : Instance) × Among x is × (y ≡ x.name) × P x.types
at-types y is P none h = by (instance_at is y) refl h
  where
    by : (o : Option Instance) → instance_at is y ≡ o → P (types_in o)
        → (x : Instance) × Among x is × (y ≡ x.name) × P x.types
    by None e k = absurd (none k)
    by (Some x) e k = let (there, named) = at-some y is x e in (x, there, named, k)

module _ (s : Schema) (d : Domain) (en : Entities) (rules : Rules) (chosen : MergeOptions) (is : List Instance)
    (distinct : IsDistinct (◌==◌) (names is)) (y : ℕ) where
  abbrev ByForm : Instance → Type 0
  ByForm x = PinsByForm s en chosen rules.uniques y x

  types-of : (x : Instance) → Among x is → types_at is x.name ≡ x.types
  types-of x m = ap types_in (at_own_name x is distinct m)

  -- of the instance of a name
  own-types : (x : Instance) → Among x is → y ≡ x.name → x.types ≡ types_at is y
  own-types x m e = sym (types-of x m) ∙ ap (types_at is) (sym e)

  abbrev Elsewhere : Type 0
  Elsewhere =
      HasUnchosenLeaf s en chosen.entities (types_at is y)
      ⊎ (OneOf (StandsInBag s d en chosen.in_sets y) is ⊎ OneOf (IsInKey is y) rules.uniques)

  in-key : (x : Instance) → Among x is → (us : List UniqueRule) → OneOf (StandsInKey s en chosen us y x) us
      → OneOf (IsInKey is y) us
  in-key x m us h =
      let u = found (StandsInKey s en chosen us y x) us h in
      one_is (IsInKey is y) u.0 us u.1
      (inr (one_is (λ (z : Instance). IsTrue (is_listed u.0.entity z.types)
      × OneOf (λ (p : Place). OccursAt y (slot_at z.slots p)) u.0.places) x is m u.2))

  pub by-form : OneOf ByForm is → Elsewhere
  by-form h = let x = found ByForm is h in by x.0 x.1 x.2
    where
      by : (x : Instance) → Among x is → ByForm x → Elsewhere
      by x m (inl (e, inl k)) = inl (subst (HasUnchosenLeaf s en chosen.entities) (own-types x m e) k)
      by x m (inl (e, inr k)) =
          let u = found (λ (v : UniqueRule). IsTrue (is_listed v.entity x.types)) rules.uniques k in
          inr (inr (one_is (IsInKey is y) u.0 rules.uniques u.1
          (inl (subst (λ ts. IsTrue (is_listed u.0.entity ts)) (own-types x m e) u.2))))
      by x m (inr (inl k)) = inr (inr (in-key x m rules.uniques k))
      by x m (inr (inr k)) = inr (inl (one_is (StandsInBag s d en chosen.in_sets y) x is m k))

  none-leaf : HasUnchosenLeaf s en chosen.entities [] → ⊥
  none-leaf h = h

  pub to-form : Elsewhere → OneOf ByForm is
  to-form (inl h) =
      let (x, m, e, k) = at-types y is (HasUnchosenLeaf s en chosen.entities) none-leaf h in
      one_is ByForm x is m (inl (e, inl k))
  to-form (inr (inl h)) =
      let x = found (StandsInBag s d en chosen.in_sets y) is h in one_is ByForm x.0 is x.1 (inr (inr x.2))
  to-form (inr (inr h)) = let u = found (IsInKey is y) rules.uniques h in by u.0 u.1 u.2
    where
      by : (u : UniqueRule) → Among u rules.uniques → IsInKey is y u → OneOf ByForm is
      by u m (inl t) =
          let x = named_at y is u.entity t in
          one_is ByForm x.0 is x.1
          (inl (sym x.2, inr (one_is (λ (v : UniqueRule). IsTrue (is_listed v.entity x.0.types)) u rules.uniques m x.3)))
      by u m (inr k) =
          let x = found (λ (z : Instance). IsTrue (is_listed u.entity z.types)
          × OneOf (λ (p : Place). OccursAt y (slot_at z.slots p)) u.places) is k in
          one_is ByForm x.0 is x.1 (inr (inl (one_is (StandsInKey s en chosen rules.uniques y x.0) u rules.uniques m x.2)))

  -- what the three passes pin
  pub together : ((OneOf ByForm is ⊎ OneOf (IsInverseSide is y) rules.inverses)
      ⊎ OneOf (StandsInsideUnique s d en y) is) ↔ IsWeaklyPinned s d en rules chosen is y
  together = (forth, back)
    where
      elsewhere : Elsewhere → IsPinnedElsewhere s d en rules chosen is y
      elsewhere (inl h) = inl h
      elsewhere (inr (inl h)) = inr (inl h)
      elsewhere (inr (inr h)) = inr (inr (inl h))

      forth : ((OneOf ByForm is ⊎ OneOf (IsInverseSide is y) rules.inverses) ⊎ OneOf (StandsInsideUnique s d en y) is)
          → IsWeaklyPinned s d en rules chosen is y
      forth (inl (inl h)) = inl (elsewhere (by-form h))
      forth (inl (inr h)) = inl (inr (inr (inr h)))
      forth (inr h) = inr h

      back : IsWeaklyPinned s d en rules chosen is y
          → (OneOf ByForm is ⊎ OneOf (IsInverseSide is y) rules.inverses) ⊎ OneOf (StandsInsideUnique s d en y) is
      back (inl (inl h)) = inl (inl (to-form (inl h)))
      back (inl (inr (inl h))) = inl (inl (to-form (inr (inl h))))
      back (inl (inr (inr (inl h)))) = inl (inl (to-form (inr (inr h))))
      back (inl (inr (inr (inr h)))) = inl (inr h)
      back (inr h) = inr h

-- from no name on
pub from-none : (P : ℕ → Type 0) (old new : Vec ℕ Global) → old.items ≡ [] → Pins P old new → (y : ℕ)
    → IsTrue (has_name new y) ↔ P y
from-none P old new empty h y = (
  (λ t. elim ((h y).0 t) [ inl k ↦ let none : has_name old y ≡ false = ap (list_any (is_at (nat_cmp y))) empty in absurd (cc) | inr p ↦ p ]),
  (λ p. (h y).1 (inr p)),
)

-- a copy has the same names
pub same-names : (xs ys : List ℕ) → AllZip (λ x y. y ≡ x) xs ys → ys ≡ xs
same-names [] [] h = refl
same-names [] (y ∷ ys) h = absurd h
same-names (x ∷ xs) [] h = absurd h
same-names (x ∷ xs) (y ∷ ys) h = λ i. h.0 i ∷ same-names xs ys h.1 i

-- names beside those of a copy
pub pins-more : (P : ℕ → Type 0) (old copy : List ℕ) (new : BTreeSet ℕ) (none more : Vec ℕ Global) → none.items ≡ []
    → Pins P none more → copy ≡ old
    → ((y : ℕ) → is_pinned new y ≡ (list_any (is_at (nat_cmp y)) copy || has_name more y)) → (y : ℕ)
    → IsTrue (is_pinned new y) ↔ (IsTrue (list_any (is_at (nat_cmp y)) old) ⊎ P y)
pins-more P old copy new none more empty h same both y = by (list_any (is_at (nat_cmp y)) old) refl
  where
    told : IsTrue (has_name more y) ↔ P y
    told = from-none P none more empty h y

    all : is_pinned new y ≡ (list_any (is_at (nat_cmp y)) old || has_name more y)
    all = both y ∙ ap (λ l. list_any (is_at (nat_cmp y)) l || has_name more y) same

    by : (a : Bool) → list_any (is_at (nat_cmp y)) old ≡ a
        → IsTrue (is_pinned new y) ↔ (IsTrue (list_any (is_at (nat_cmp y)) old) ⊎ P y)
    by true p = ((λ t. inl p), (λ k. all ∙ ap (λ b. b || has_name more y) p))
    by false p =
        let one : is_pinned new y ≡ has_name more y = all ∙ ap (λ b. b || has_name more y) p in (
          (λ t. inr (told.0 (sym one ∙ t))),
          (λ k. elim k [ inl q ↦ absurd (false≢true (sym p ∙ q)) | inr q ↦ one ∙ told.1 q ]),
        )
