-- The types of an instance, by number.
use Rattle.std.specs.Prelude.{◌≡◌, ℕ, Bool, true, false, List, [], ◌∷◌, map, get_or, slice_get, None, Some, eqb}
use Rattle.std.specs.List.{filter, IsDistinct}
use Rattle.std.proofs.Common.{refl, ap, sym, subst, ◌∙◌, arith, zero, suc}
use Rattle.graphs.specs.Graphs.{has}
use Rattle.express_syntax.specs.Schemas.{Schema, Declaration, type, entity, skipped, Entity}
use Rattle.express_syntax.specs.Profile.{Every}
use Rattle.schema_semantics.specs.Names.{Name, IsEntity}
use Rattle.schema_semantics.specs.Faults.{IsResolved}
use Rattle.schema_names.specs.Numbers.{HasNumber, IsAt}
use Rattle.schema_names.proofs.Numbers.{stands-at}
use Rattle.schema_underlying_types.specs.BaseViews.{name_in, name_at}
use Rattle.conformance.specs.ParameterFits.{entity_names}
use Rattle.population_forms.specs.steps.Marked.{numbers, is_marked, passes, marks_on, AreSorted}
use Rattle.population_forms.proofs.Naming.{name-at, has-own-name, entity-at, own-number, AreNumbered}
use Rattle.population_forms.proofs.Listing.{marked-names, listed-is, listed-once, each-listed}
use Rattle.population_forms.proofs.Rising.{listed-as}

module _ (s : Schema) (r : IsResolved s) where
  -- an entity has this number
  abbrev pub IsNumberOfEntity : ℕ → Type 0
  IsNumberOfEntity i = (n : Name) × IsEntity s n × HasNumber s n i

  -- the marks on those that pass
  passes-at : (test : Name → Bool) (f : ℕ → Bool)
      → ((n : Name) (i : ℕ) → IsEntity s n → HasNumber s n i → f i ≡ test n)
      → ((i : ℕ) → f i ≡ true → IsNumberOfEntity i) → (i : ℕ) (d : Declaration) → IsAt s i d
      → f i ≡ passes test d
  passes-at test f same only i (type t) at = none (f i) refl
    where
      none : (b : Bool) → f i ≡ b → b ≡ false
      none true e =
          let (n, (x, stands), k) = only i e in
          let here : slice_get s.declarations i ≡ Some (entity x) = entity-at s n i x stands k in absurd (cc)
      none false e = refl
  passes-at test f same only i (entity e) at =
      let k = own-number s r i e at in same e.name i (e, stands-at s e.name i k ∙ at) k
  passes-at test f same only i (skipped p) at = none (f i) refl
    where
      none : (b : Bool) → f i ≡ b → b ≡ false
      none true e =
          let (n, (x, stands), k) = only i e in
          let here : slice_get s.declarations i ≡ Some (entity x) = entity-at s n i x stands k in absurd (cc)
      none false e = refl

  marks-at : {A : Type 0} (g : A → Bool) (xs : List A) (i : ℕ) (b : Bool)
      → ((x : A) → slice_get xs i ≡ Some x → b ≡ g x) → (slice_get xs i ≡ None → b ≡ false)
      → b ≡ get_or (map g xs) i false
  marks-at g [] i b h none = none refl
  marks-at g (x ∷ xs) zero b h none = h x refl
  marks-at g (x ∷ xs) (suc i) b h none = marks-at g xs i b h none

  passes-marked : (test : Name → Bool) (f : ℕ → Bool)
      → ((n : Name) (i : ℕ) → IsEntity s n → HasNumber s n i → f i ≡ test n)
      → ((i : ℕ) → f i ≡ true → IsNumberOfEntity i) → (i : ℕ) → f i ≡ is_marked (marks_on s test) i
  passes-marked test f same only i =
      marks-at (passes test) s.declarations i (f i) (λ d at. passes-at test f same only i d at)
      (λ none. outside (f i) refl none)
    where
      outside : (b : Bool) → f i ≡ b → slice_get s.declarations i ≡ None → b ≡ false
      outside true e none =
          let (n, (x, stands), k) = only i e in
          let here : slice_get s.declarations i ≡ Some (entity x) = entity-at s n i x stands k in absurd (cc)
      outside false e none = refl

  -- what is marked is an entity that passes
  passed : (test : Name → Bool) (ds : List Declaration) (j : ℕ) → get_or (map (passes test) ds) j false ≡ true
      → (e : Entity) × (slice_get ds j ≡ Some (entity e)) × (test e.name ≡ true)
  passed test [] j h = absurd (cc)
  passed test (type t ∷ ds) zero h = absurd (cc)
  passed test (entity e ∷ ds) zero h = (e, refl, h)
  passed test (skipped p ∷ ds) zero h = absurd (cc)
  passed test (d ∷ ds) (suc j) h = passed test ds j h

  module _ (test : Name → Bool) where
    -- the numbers of the entities that pass
    abbrev pub row : List ℕ
    row = numbers (marks_on s test)

    pub row-names : map (name_at s) row ≡ filter test (entity_names s)
    row-names =
        marked-names test (name_at s) 0 s.declarations
        (λ i j d e at. (let same : j ≡ i = omega (arith, e) in
        ap name_in (subst (λ k. slice_get s.declarations k ≡ Some d) same at)))

    pub row-entities : Every IsNumberOfEntity row
    row-entities =
        each-listed IsNumberOfEntity 0 (marks_on s test)
        (λ i j e marked. (let (x, at, holds) = passed test s.declarations j marked in
        let same : j ≡ i = omega (arith, e) in
        let here : IsAt s i (entity x) = subst (λ k. slice_get s.declarations k ≡ Some (entity x)) same at in
        let k = own-number s r i x here in
        (x.name, (x, stands-at s x.name i k ∙ here), k)))

    row-has : (i : ℕ) → has row i ≡ is_marked (marks_on s test) i
    row-has i = listed-is 0 i i (marks_on s test) (omega arith)

    pub row-once : IsDistinct eqb row
    row-once = listed-once 0 (marks_on s test)

  -- numbers that rise, of the entities that pass
  pub rows-are : (test : Name → Bool) (f : ℕ → Bool) (xs : List ℕ)
      → ((n : Name) (i : ℕ) → IsEntity s n → HasNumber s n i → f i ≡ test n)
      → ((i : ℕ) → f i ≡ true → IsNumberOfEntity i) → AreSorted f xs → xs ≡ row test
  rows-are test f xs same only h =
      listed-as xs (marks_on s test) h.rise
      (λ i. h.told i ∙ passes-marked test f same only i ∙ sym (row-has test i))

  numbered : (xs : List ℕ) → Every IsNumberOfEntity xs → AreNumbered s xs
  numbered [] h = tt
  numbered (i ∷ xs) h = (by h.0, numbered xs h.1)
    where
      by : IsNumberOfEntity i → HasNumber s (name_at s i) i
      by (n, e, k) = has-own-name s n i k

  pub row-numbered : (test : Name → Bool) → AreNumbered s (row test)
  row-numbered test = numbered (row test) (row-entities test)

  pub own-entity : (i : ℕ) → IsNumberOfEntity i → IsEntity s (name_at s i) × HasNumber s (name_at s i) i
  own-entity i (n, e, k) = (subst (IsEntity s) (sym (name-at s n i k)) e, has-own-name s n i k)
