-- What an instance adds to the references that an inverse attribute holds.
use Rattle.std.specs.Prelude.{◌≡◌, ℕ, zero, suc, ◌+◌, ◌==◌, Bool, true, false, cond, List, [], ◌∷◌, ◌++◌, map, flat_map, filter, Option, None, Some, is_some, slice_get}
use Rattle.std.specs.List.{repeat, list_any}
use Rattle.std.proofs.Common.{refl, sym, ap, ◌∙◌, arith, add-one, append-nil, take}
use Rattle.std.proofs.lemmas.Grind.{flat_map-append}
use Rattle.std.proofs.lemmas.List.Concat.{flat_map-cons}
use Rattle.graphs.specs.Graphs.{has}
use Rattle.express_syntax.specs.Schemas.{Schema}
use Rattle.express_syntax.specs.Profile.{Every}
use Rattle.schema_explicit_attributes.specs.Places.{all_places}
use Rattle.schema_explicit_attributes.proofs.Repeats.{AreOne}
use Rattle.step_values.specs.Values.{Value, leaf, reference, typed, sequence, bag, Values, none, more}
use Rattle.schema_underlying_types.specs.BaseViews.{name_at}
use Rattle.conformance.specs.Populations.{slot_at}
use Rattle.population_rows.specs.declared.form.Form.{Form}
use Rattle.population_forms.proofs.Naming.{among-is}
use Rattle.conformance.specs.Referrers.{times, times_in, times_at, holds, held}
use Rattle.graphs.specs.declared.referrers.Reference.{Reference}
use Rattle.graphs.specs.Referrers.{referrers_of}
use Rattle.schema_constraints.specs.RuleViews.{gathering_seen, inverse_seen, IsNumberedInverse}
use Rattle.schema_constraints.specs.declared.inverse_collections.Gathering.{Gathering}
use Rattle.schema_constraints.specs.declared.inverse_collections.Gathering.TheVariants as gatherings
use Rattle.schema_constraints.specs.declared.inverses.InverseAttribute.{InverseAttribute}
use Rattle.typed_populations.specs.ValueOrder.{picked_at, position_among}
use Rattle.typed_populations.specs.Rows.{place_at, slots_seen, instance_seen, instances_seen}
use Rattle.typed_populations.specs.PopulationTables.{form_among, ArePlaced, AreNumbered}
use Rattle.typed_populations.proofs.Found.{value-at-number}
use Rattle.population_inverses.specs.InverseReferences.{position_by, position_at}
use Rattle.population_inverses.specs.steps.Targets.{targets, targets_of_each, often, references_to}
use Rattle.population_inverses.proofs.Once.{often-append}

-- A value refers to y as often as it stands among its targets.
mutual
  pub often-targets : (y : ℕ) (v : Value) → often y (targets v) ≡ times y v
  often-targets y (leaf a) = refl
  often-targets y (reference z) = by (y == z)
    where
      by : (b : Bool) → cond b (suc 0) 0 ≡ cond b 1 0
      by true = refl
      by false = refl
  often-targets y (typed n v) = often-targets y v
  often-targets y (sequence vs) = often-targets-in y vs
  often-targets y (bag vs) = often-targets-in y vs

  often-targets-in : (y : ℕ) (vs : Values) → often y (targets_of_each vs) ≡ times_in y vs
  often-targets-in y none = refl
  often-targets-in y (more v vs) =
      let first = often-targets y v in
      let rest = often-targets-in y vs in
      let all = often-append y (targets v) (targets_of_each vs) in
      omega (arith, first, rest, all)

referrers-append : (y : ℕ) (xs ys : List Reference) → referrers_of y (xs ++ ys) ≡ referrers_of y xs ++ referrers_of y ys
referrers-append y [] ys = refl
referrers-append y (x ∷ xs) ys = by (y == x.target) (referrers-append y xs ys)
  where
    by : (b : Bool) → referrers_of y (xs ++ ys) ≡ referrers_of y xs ++ referrers_of y ys
        → map (λ (r : Reference). r.referrer) (cond b (x ∷ filter (λ (r : Reference). y == r.target) (xs ++ ys))
        (filter (λ (r : Reference). y == r.target) (xs ++ ys)))
        ≡ map (λ (r : Reference). r.referrer) (cond b (x ∷ filter (λ (r : Reference). y == r.target) xs)
        (filter (λ (r : Reference). y == r.target) xs)) ++ referrers_of y ys
    by true e = ap (λ l. x.referrer ∷ l) e
    by false e = e

-- One reference to each of some names is as many to y as y stands among them.
referrers-to : (y n : ℕ) (ts : List ℕ) → referrers_of y (references_to ts n) ≡ repeat (often y ts) (n ∷ [])
referrers-to y n [] = refl
referrers-to y n (t ∷ ts) = by (y == t) (referrers-to y n ts)
  where
    rest : List Reference
    rest = filter (λ (r : Reference). y == r.target) (references_to ts n)

    by : (b : Bool) → referrers_of y (references_to ts n) ≡ repeat (often y ts) (n ∷ [])
        → map (λ (r : Reference). r.referrer) (cond b (record { target = t; referrer = n } ∷ rest) rest)
        ≡ repeat (cond b (suc (often y ts)) (often y ts)) (n ∷ [])
    by true e = ap (λ l. n ∷ l) e
    by false e = e

pub referrers-added : (y n : ℕ) (old new : List Reference) (ts : List ℕ) → new ≡ old ++ references_to ts n
    → referrers_of y new ≡ referrers_of y old ++ repeat (often y ts) (n ∷ [])
referrers-added y n old new ts e =
    ap (referrers_of y) e ∙ referrers-append y old (references_to ts n)
    ∙ ap (λ l. referrers_of y old ++ l) (referrers-to y n ts)

-- one that refers not at all isn't held
none-held : (i : InverseAttribute) (n : ℕ) → repeat (holds (gathering_seen i.gathering) 0) (n ∷ []) ≡ []
none-held i n = by i.gathering
  where
    by : (g : Gathering) → repeat (holds (gathering_seen g) 0) (n ∷ []) ≡ []
    by gatherings.Alone = refl
    by (gatherings.Set lower upper) = refl
    by (gatherings.Bag lower upper) = refl

-- where instances of this form have the attribute that is inverted
abbrev pub position_in : InverseAttribute → Option Form → Option ℕ
position_in i None = None
position_in i (Some x) = position_by i x

pub position-is : (i : InverseAttribute) (forms : List Form) (o : Option ℕ)
    → position_at (map (position_by i) forms) o ≡ position_in i (form_among forms o)
position-is i forms None = refl
position-is i [] (Some n) = refl
position-is i (x ∷ forms) (Some zero) = refl
position-is i (x ∷ forms) (Some (suc n)) = position-is i forms (Some n)

-- the types of a form have their numbers
abbrev pub HasNumbers : Schema → Option Form → Type 0
HasNumbers s None = Unit {0}
HasNumbers s (Some x) = AreNumbered s x

pub numbers-of : (s : Schema) (forms : List Form) (o : Option ℕ) → Every (AreNumbered s) forms
    → HasNumbers s (form_among forms o)
numbers-of s forms None h = tt
numbers-of s [] (Some n) h = tt
numbers-of s (x ∷ forms) (Some zero) h = h.0
numbers-of s (x ∷ forms) (Some (suc n)) h = numbers-of s forms (Some n) h.1

-- An instance is held as often as its value of the attribute that is inverted refers to the target.
module _ (s : Schema) (i : InverseAttribute) (numbered : IsNumberedInverse s i) (one : AreOne (all_places s))
    (y n k : ℕ) (vs : Values) where
  abbrev TimesHeld : Option Value → List ℕ
  TimesHeld v = repeat (holds (gathering_seen i.gathering) (times_at y v)) (n ∷ [])

  pub held-in : (o : Option Form) → ArePlaced s o → HasNumbers s o
      → held (inverse_seen s i) y (instance_seen s n k o vs) ≡ TimesHeld (picked_at vs (position_in i o))
  held-in None placed numbers = sym (none-held i n)
  held-in (Some x) placed numbers =
      ap (λ b. cond b (TimesHeld (slot_at (slots_seen s x.slots.items vs) (place_at s i.inverted))) [])
      (among-is s (name_at s i.referrer) i.referrer numbered.referrer x.types.items numbers)
      ∙ ap (λ v. cond (has x.types.items i.referrer) (TimesHeld v) [])
      (value-at-number s one i.inverted numbered.inverted x.slots.items vs placed)
      ∙ by (has x.types.items i.referrer)
    where
      by : (b : Bool) → cond b (TimesHeld (picked_at vs (position_among x.slots.items i.inverted))) []
          ≡ TimesHeld (picked_at vs (cond b (position_among x.slots.items i.inverted) None))
      by true = refl
      by false = sym (none-held i n)

-- Where no form has the attribute that is inverted, no instance is held.
nowhere-at : (positions : List (Option ℕ)) → list_any is_some positions ≡ false → (o : Option ℕ)
    → position_at positions o ≡ None
nowhere-at positions e None = refl
nowhere-at [] e (Some n) = refl
nowhere-at (None ∷ positions) e (Some zero) = refl
nowhere-at (Some k ∷ positions) e (Some n) = absurd (cc)
nowhere-at (None ∷ positions) e (Some (suc n)) = nowhere-at positions e (Some n)

module _ (s : Schema) (i : InverseAttribute) (numbered : IsNumberedInverse s i) (one : AreOne (all_places s))
    (y : ℕ) (forms : List Form) (nowhere : list_any is_some (map (position_by i) forms) ≡ false)
    (numbers : Every (AreNumbered s) forms) where
  not-held : (n k : ℕ) (f : Option ℕ) (vs : Values) → ArePlaced s (form_among forms f)
      → held (inverse_seen s i) y (instance_seen s n k (form_among forms f) vs) ≡ []
  not-held n k f vs placed =
      held-in s i numbered one y n k vs (form_among forms f) placed (numbers-of s forms f numbers)
      ∙ ap (λ q. repeat (holds (gathering_seen i.gathering) (times_at y (picked_at vs q))) (n ∷ []))
      (sym (position-is i forms f) ∙ nowhere-at (map (position_by i) forms) nowhere f)
      ∙ none-held i n

  pub none-gathered : (ns ks : List ℕ) (fs : List (Option ℕ)) (vss : List Values)
      → Every (λ o. ArePlaced s (form_among forms o)) fs
      → flat_map (held (inverse_seen s i) y) (instances_seen s forms ns ks fs vss) ≡ []
  none-gathered (n ∷ ns) (k ∷ ks) (f ∷ fs) (vs ∷ vss) placed =
      flat_map-cons (held (inverse_seen s i) y) (instance_seen s n k (form_among forms f) vs)
      (instances_seen s forms ns ks fs vss)
      ∙ ap (λ l. l ++ flat_map (held (inverse_seen s i) y) (instances_seen s forms ns ks fs vss))
      (not-held n k f vs placed.0)
      ∙ none-gathered ns ks fs vss placed.1
  none-gathered [] ks fs vss placed = refl
  none-gathered (n ∷ ns) [] fs vss placed = refl
  none-gathered (n ∷ ns) (k ∷ ks) [] vss placed = refl
  none-gathered (n ∷ ns) (k ∷ ks) (f ∷ fs) [] placed = refl

-- one item more
pub take-next : {A : Type 0} (xs : List A) (i : ℕ) (x : A) → slice_get xs i ≡ Some x
    → take (i + 1) xs ≡ take i xs ++ x ∷ []
take-next [] i x e = absurd (cc)
take-next (z ∷ xs) zero x e = let same : z ≡ x = cc in ap (λ w. w ∷ []) same
take-next (z ∷ xs) (suc i) x e = rw add-one (rw add-one at (ap (λ l. z ∷ l) (take-next xs i x e)))

pub flat-next : {A B : Type 0} (f : A → List B) (xs : List A) (i : ℕ) (x : A) → slice_get xs i ≡ Some x
    → flat_map f (take (i + 1) xs) ≡ flat_map f (take i xs) ++ f x
flat-next f xs i x e =
    ap (flat_map f) (take-next xs i x e) ∙ flat_map-append f (take i xs) (x ∷ [])
    ∙ ap (λ l. flat_map f (take i xs) ++ l) (flat_map-cons f x [] ∙ append-nil (f x))
