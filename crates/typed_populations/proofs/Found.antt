-- Instances by name, and their values by the numbers of places.
use Rattle.std.specs.Prelude.{◌≡◌, ℕ, zero, suc, ◌==◌, ◌<◌, ◌≤◌, ◌+◌, ◌-◌, Bool, true, false, cond, is_some, List, [], ◌∷◌, length, map, Option, None, Some, IfSome, slice_get}
use Rattle.std.specs.List.{repeat, sum_by}
use Rattle.std.specs.Option.{option_map}
use Rattle.std.proofs.Common.{refl, sym, ap, subst, ◌∙◌, arith, eqb-true, length-append}
use Rattle.std.proofs.Math.Logic.{∥∥₁_elim}
use Rattle.std.proofs.Math.Bridge.{le_prop}
use Rattle.std.proofs.Math.Bool.{Bool-set}
use Rattle.std.proofs.Math.Nat.{ℕ_set}
use Rattle.std.proofs.lemmas.List.Sums.{sum_by-cons}
use Rattle.std.proofs.Props.{props}
use Rattle.express_syntax.specs.Schemas.{Schema}
use Rattle.express_syntax.specs.Profile.{Every}
use Rattle.schema_semantics.specs.Attributes.{Place}
use Rattle.schema_explicit_attributes.specs.Places.{all_places}
use Rattle.schema_explicit_attributes.proofs.Distinct.{places-are-one}
use Rattle.schema_explicit_attributes.proofs.Repeats.{AreOne, one-told}
use Rattle.step_exchange.specs.declared.section.Section.{Section}
use Rattle.step_exchange.specs.Sections.{CountsTo}
use Rattle.step_values.specs.AgreementTests.{value_count}
use Rattle.step_values.specs.steps.NodeCounts.{nodes_of, nodes_in}
use Rattle.step_values.specs.steps.Slots.{nth}
use Rattle.step_values.specs.References.{EachReference, EachReferenceOf}
use Rattle.step_values.specs.steps.Targets.{LeadTo, ReferTo}
use Rattle.step_values.specs.Values.{Value, leaf, reference, typed, sequence, bag, Values, none, more}
use Rattle.step_values.proofs.References.{each_weaker_of}
use Rattle.schema_names.specs.Numbers.{HasNumber}
use Rattle.schema_names.specs.Schemas.{the_schema}
use Rattle.parameter_fits.proofs.Pointwise.{places_stand}
use Rattle.population_rows.specs.steps.Rows.{form_at as form_in_rows}
use Rattle.population_rows.specs.Index.{found, place_of}
use Rattle.schema_underlying_types.specs.BaseEntries.{is_entity_at}
use Rattle.schema_underlying_types.specs.BaseViews.{name_at}
use Rattle.population_rows.specs.declared.form.SlotForm.{SlotForm}
use Rattle.population_rows.specs.declared.form.Form.{Form}
use Rattle.conformance.specs.Populations.{Slot, Instance, instance_at, slot_at, value_in, value_of, types_in, types_at}
use Rattle.typed_populations.specs.Rows.{or_nowhere, place_at, slots_seen, instance_seen, instances_seen, section_numbers}
use Rattle.typed_populations.specs.PopulationViews.{population_seen, nodes_seen}
use Rattle.typed_populations.specs.PopulationTables.{form_among, types_by_form, slots_by_form, slot_count, ArePlaced, HaveEntities, AreNumbered, HaveSlots}
use Rattle.typed_populations.specs.ValueOrder.{picked_at, position_among}
use Rattle.typed_populations.specs.declared.population.Population.{Population}
use Rattle.typed_populations.proofs.Turns.{got, form-of-row}
use Rattle.typed_populations.proofs.Copied.{has_place}

option-set : (a b : Option ℕ) → IsProp (a ≡ b)
option-set a b = hlevel (props, ℕ_set)

every-prop : {A : Type 0} (P : A → Type 0) → ((x : A) → IsProp (P x)) → (xs : List A) → IsProp (Every P xs)
every-prop P h [] = λ a b. refl
every-prop P h (x ∷ xs) = pair (h x) (every-prop P h xs)
  where
    pair : IsProp (P x) → IsProp (Every P xs) → IsProp (Every P (x ∷ xs))
    pair g k = hlevel (g, k)

placed-prop : (s : Schema) (o : Option Form) → IsProp (ArePlaced s o)
placed-prop s None = λ a b. refl
placed-prop s (Some x) = every-prop (λ (y : SlotForm). y.place < length (all_places s)) (λ y. le_prop) x.slots.items

-- That each reference names a row, as a proposition: a name stands first at one place.
both-props : (A B : Type 0) → IsProp A → IsProp B → IsProp (A × B)
both-props A B g k = hlevel (g, k)

mutual
  reference-prop : (Q : ℕ → Type 0) → ((y : ℕ) → IsProp (Q y)) → (v : Value) → IsProp (EachReference Q v)
  reference-prop Q h (leaf a) = λ x z. refl
  reference-prop Q h (reference y) = h y
  reference-prop Q h (typed n v) = reference-prop Q h v
  reference-prop Q h (sequence vs) = references-prop Q h vs
  reference-prop Q h (bag vs) = references-prop Q h vs

  references-prop : (Q : ℕ → Type 0) → ((y : ℕ) → IsProp (Q y)) → (vs : Values) → IsProp (EachReferenceOf Q vs)
  references-prop Q h none = λ x z. refl
  references-prop Q h (more v vs) =
      both-props (EachReference Q v) (EachReferenceOf Q vs) (reference-prop Q h v) (references-prop Q h vs)

leads-prop : (names : List ℕ) (ts : List (ℕ × ℕ)) → IsProp (LeadTo names ts)
leads-prop names [] = λ x z. refl
leads-prop names (t ∷ ts) =
    both-props (slice_get names t.1 ≡ Some t.0) (LeadTo names ts) (option-set _ _) (leads-prop names ts)

IsThere : List ℕ → ℕ → Type 0
IsThere names y = is_some (place_of names y) ≡ true

AllThere : List ℕ → List Values → Type 0
AllThere names rows = Every (EachReferenceOf (IsThere names)) rows

all-there-prop : (names : List ℕ) (rows : List Values) → IsProp (AllThere names rows)
unfolding AllThere IsThere
all-there-prop names rows =
    every-prop (EachReferenceOf (IsThere names)) (references-prop (IsThere names) (λ y. Bool-set _ _)) rows

rows-there : (names : List ℕ) (rows : List Values) → ReferTo names rows → AllThere names rows
unfolding AllThere IsThere
rows-there names [] h = tt
rows-there names (vs ∷ rows) h =
    (each_weaker_of _ (IsThere names) there vs h.0, rows-there names rows h.1)
  where
    there : (y : ℕ) → (i : ℕ) × (slice_get names i ≡ Some y) → is_some (place_of names y) ≡ true
    there y at = ap is_some (has_place y names at.0 at.1).1

named-rows : (names : List ℕ) (rows : List Values) → AllThere names rows → ReferTo names rows
unfolding AllThere IsThere
named-rows names [] h = tt
named-rows names (vs ∷ rows) h =
    (each_weaker_of (IsThere names) _ there vs h.0, named-rows names rows h.1)
  where
    stands : (y : ℕ) (o : Option ℕ) → place_of names y ≡ o → is_some o ≡ true
        → (i : ℕ) × (slice_get names i ≡ Some y)
    stands y None e t = absurd (cc)
    stands y (Some i) e t = (i, places_stand names (place_of names) (λ z. refl) y i e)

    there : (y : ℕ) → is_some (place_of names y) ≡ true → (i : ℕ) × (slice_get names i ≡ Some y)
    there y t = stands y (place_of names y) refl t

-- sections have a number for each instance
numbers-length : (from k : ℕ) (ss : List Section) (n : ℕ) → CountsTo from ss n
    → from + length (section_numbers from k ss) ≡ n
numbers-length from k [] n h = omega (arith, h)
numbers-length from k (x ∷ ss) n h =
    let more = numbers-length x.past (suc k) ss n h.1 in
    let le = h.0 in
    omega (
      arith,
      more,
      le,
      repeated (x.past - from),
      length-append (repeat (x.past - from) (k ∷ [])) (section_numbers x.past (suc k) ss),
    )
  where
    repeated : (m : ℕ) → length (repeat m (k ∷ [])) ≡ m
    repeated zero = refl
    repeated (suc m) = ap suc (repeated m)

all-numbers : (ss : List Section) (n : ℕ) → CountsTo 0 ss n → length (section_numbers 0 0 ss) ≡ n
all-numbers ss n h = let all = numbers-length 0 0 ss n h in omega (arith, all)

numbered-prop : (s : Schema) (x : Form) → IsProp (AreNumbered s x)
numbered-prop s x = every-prop (λ i. HasNumber s (name_at s i) i) (λ i. option-set _ _) x.types.items

entities-prop : (s : Schema) (o : Option Form) → IsProp (HaveEntities s o)
entities-prop s None = λ a b. refl
entities-prop s (Some x) = every-prop (λ i. is_entity_at s i ≡ true) (λ i. Bool-set _ _) x.types.items

-- what a population keeps to
pub record IsKept (p : Population) : Type 0 where
  pub index : (y : ℕ) → found p.rows.index y ≡ place_of p.exchange.now.names y
  pub sections : length (section_numbers 0 0 p.exchange.now.sections.items) ≡ length p.exchange.now.names
  pub forms : length p.rows.form_of.items ≡ length p.exchange.now.names
  pub values : length p.values.rows ≡ length p.exchange.now.names
  pub placed : Every (λ o. ArePlaced (the_schema p.types.now.names) (form_among p.rows.forms.items o))
      p.rows.form_of.items
  pub entities : Every (λ o. HaveEntities (the_schema p.types.now.names) (form_among p.rows.forms.items o))
      p.rows.form_of.items
  pub one : AreOne (all_places (the_schema p.types.now.names))
  pub numbered : Every (AreNumbered (the_schema p.types.now.names)) p.rows.forms.items
  pub leads : LeadTo p.exchange.now.names p.values.targets
  pub refers : ReferTo p.exchange.now.names p.values.rows

pub kept : (p : Population) → IsKept p
kept p = record {
  index = λ y. ∥∥₁_elim p.typed (option-set _ _) (λ w. w.whole.index y);
  sections = ∥∥₁_elim p.exchange.now.counted (ℕ_set _ _)
      (λ c. all-numbers p.exchange.now.sections.items (length p.exchange.now.names) c);
  forms = ∥∥₁_elim p.typed (ℕ_set _ _) (λ w. w.whole.forms);
  values = ∥∥₁_elim p.typed (ℕ_set _ _) (λ w. w.whole.values);
  placed = ∥∥₁_elim p.typed (every-prop _ (λ o. placed-prop (the_schema p.types.now.names)
      (form_among p.rows.forms.items o)) p.rows.form_of.items) (λ w. w.whole.placed);
  entities = ∥∥₁_elim p.typed (every-prop _ (λ o. entities-prop (the_schema p.types.now.names)
      (form_among p.rows.forms.items o)) p.rows.form_of.items) (λ w. w.whole.entities);
  one = λ a b q e f. ∥∥₁_elim p.types.now.resolved (ℕ_set _ _)
      (λ r. places-are-one (the_schema p.types.now.names) r.once a b q e f);
  numbered = ∥∥₁_elim p.typed (every-prop _ (numbered-prop (the_schema p.types.now.names)) p.rows.forms.items)
      (λ w. w.whole.numbered);
  leads = ∥∥₁_elim p.typed (leads-prop p.exchange.now.names p.values.targets) (λ w. w.whole.leads);
  refers = named-rows p.exchange.now.names p.values.rows
      (∥∥₁_elim p.typed (all-there-prop p.exchange.now.names p.values.rows)
      (λ w. rows-there p.exchange.now.names p.values.rows w.whole.refers));
}

module _ (s : Schema) (forms : List Form) where
  name-seen : (y k : ℕ) (o : Option Form) (vs : Values) → (instance_seen s y k o vs).name ≡ y
  name-seen y k None vs = refl
  name-seen y k (Some x) vs = refl

  -- The instance of a name is that of a row.
  pub record IsSeen (ns ks : List ℕ) (fs : List (Option ℕ)) (vss : List Values) (y i : ℕ) : Type 0 where
    pub section : ℕ
    pub form : Option ℕ
    pub values : Values
    pub at_form : slice_get fs i ≡ Some form
    pub at_values : slice_get vss i ≡ Some values
    pub is : instance_at (instances_seen s forms ns ks fs vss) y
        ≡ Some (instance_seen s y section (form_among forms form) values)

  module _ (n : ℕ) (ns : List ℕ) (k : ℕ) (ks : List ℕ) (f : Option ℕ) (fs : List (Option ℕ)) (vs : Values)
      (vss : List Values) where
    here : (y : ℕ) → (n == y) ≡ true → IsSeen (n ∷ ns) (k ∷ ks) (f ∷ fs) (vs ∷ vss) y 0
    here y t = record {
      section = k;
      form = f;
      values = vs;
      at_form = refl;
      at_values = refl;
      is = ap (λ (z : ℕ). cond (z == y) (Some (instance_seen s n k (form_among forms f) vs))
          (instance_at (instances_seen s forms ns ks fs vss) y)) (name-seen n k (form_among forms f) vs)
          ∙ ap (λ (b : Bool). cond b (Some (instance_seen s n k (form_among forms f) vs))
          (instance_at (instances_seen s forms ns ks fs vss) y)) t
          ∙ ap (λ (z : ℕ). Some (instance_seen s z k (form_among forms f) vs)) (eqb-true n y t);
    }

    passed : (y : ℕ) → (n == y) ≡ false → instance_at (instances_seen s forms (n ∷ ns) (k ∷ ks) (f ∷ fs) (vs ∷ vss)) y
        ≡ instance_at (instances_seen s forms ns ks fs vss) y
    passed y t =
        ap (λ (z : ℕ). cond (z == y) (Some (instance_seen s n k (form_among forms f) vs))
        (instance_at (instances_seen s forms ns ks fs vss) y)) (name-seen n k (form_among forms f) vs)
        ∙ ap (λ (b : Bool). cond b (Some (instance_seen s n k (form_among forms f) vs))
        (instance_at (instances_seen s forms ns ks fs vss) y)) t

    later : (y j : ℕ) → (n == y) ≡ false → IsSeen ns ks fs vss y j
        → IsSeen (n ∷ ns) (k ∷ ks) (f ∷ fs) (vs ∷ vss) y (suc j)
    later y j t h = record {
      section = h.section;
      form = h.form;
      values = h.values;
      at_form = h.at_form;
      at_values = h.at_values;
      is = passed y t ∙ h.is;
    }

  pub seen-at : (ns ks : List ℕ) (fs : List (Option ℕ)) (vss : List Values) (y i : ℕ) → length ks ≡ length ns
      → length fs ≡ length ns → length vss ≡ length ns → place_of ns y ≡ Some i → IsSeen ns ks fs vss y i
  seen-at [] ks fs vss y i a b c e = absurd (cc)
  seen-at (n ∷ ns) [] fs vss y i a b c e = absurd (omega (arith, a))
  seen-at (n ∷ ns) (k ∷ ks) [] vss y i a b c e = absurd (omega (arith, b))
  seen-at (n ∷ ns) (k ∷ ks) (f ∷ fs) [] y i a b c e = absurd (omega (arith, c))
  seen-at (n ∷ ns) (k ∷ ks) (f ∷ fs) (vs ∷ vss) y i a b c e =
      by (n == y) refl e (λ j h. seen-at ns ks fs vss y j (omega (arith, a)) (omega (arith, b)) (omega (arith, c)) h)
    where
      behind : (o : Option ℕ) → place_of ns y ≡ o → option_map suc o ≡ Some i → (n == y) ≡ false
          → ((j : ℕ) → place_of ns y ≡ Some j → IsSeen ns ks fs vss y j)
          → IsSeen (n ∷ ns) (k ∷ ks) (f ∷ fs) (vs ∷ vss) y i
      behind None q h t rest = absurd (cc)
      behind (Some j) q h t rest =
          let same : suc j ≡ i = cc in
          subst (λ z. IsSeen (n ∷ ns) (k ∷ ks) (f ∷ fs) (vs ∷ vss) y z) same
          (later n ns k ks f fs vs vss y j t (rest j q))

      by : (t : Bool) → (n == y) ≡ t → cond t (Some 0) (option_map suc (place_of ns y)) ≡ Some i
          → ((j : ℕ) → place_of ns y ≡ Some j → IsSeen ns ks fs vss y j)
          → IsSeen (n ∷ ns) (k ∷ ks) (f ∷ fs) (vs ∷ vss) y i
      by true t h rest =
          let same : 0 ≡ i = cc in
          subst (λ z. IsSeen (n ∷ ns) (k ∷ ks) (f ∷ fs) (vs ∷ vss) y z) same (here n ns k ks f fs vs vss y t)
      by false t h rest = behind (place_of ns y) refl h t rest

  pub seen-none : (ns ks : List ℕ) (fs : List (Option ℕ)) (vss : List Values) (y : ℕ) → place_of ns y ≡ None
      → instance_at (instances_seen s forms ns ks fs vss) y ≡ None
  seen-none [] ks fs vss y e = refl
  seen-none (n ∷ ns) [] fs vss y e = refl
  seen-none (n ∷ ns) (k ∷ ks) [] vss y e = refl
  seen-none (n ∷ ns) (k ∷ ks) (f ∷ fs) [] y e = refl
  seen-none (n ∷ ns) (k ∷ ks) (f ∷ fs) (vs ∷ vss) y e =
      by (n == y) refl e (λ h. seen-none ns ks fs vss y h)
    where
      behind : (o : Option ℕ) → place_of ns y ≡ o → option_map suc o ≡ None → place_of ns y ≡ None
      behind None q h = q
      behind (Some j) q h = absurd (cc)

      by : (t : Bool) → (n == y) ≡ t → cond t (Some 0) (option_map suc (place_of ns y)) ≡ None
          → (place_of ns y ≡ None → instance_at (instances_seen s forms ns ks fs vss) y ≡ None)
          → instance_at (instances_seen s forms (n ∷ ns) (k ∷ ks) (f ∷ fs) (vs ∷ vss)) y ≡ None
      by true t h rest = absurd (cc)
      by false t h rest = passed n ns k ks f fs vs vss y t ∙ rest (behind (place_of ns y) refl h)

  pub seen-length : (ns ks : List ℕ) (fs : List (Option ℕ)) (vss : List Values) → length ks ≡ length ns
      → length fs ≡ length ns → length vss ≡ length ns → length (instances_seen s forms ns ks fs vss) ≡ length ns
  seen-length [] ks fs vss a b c = refl
  seen-length (n ∷ ns) [] fs vss a b c = absurd (omega (arith, a))
  seen-length (n ∷ ns) (k ∷ ks) [] vss a b c = absurd (omega (arith, b))
  seen-length (n ∷ ns) (k ∷ ks) (f ∷ fs) [] a b c = absurd (omega (arith, c))
  seen-length (n ∷ ns) (k ∷ ks) (f ∷ fs) (vs ∷ vss) a b c =
      ap suc (seen-length ns ks fs vss (omega (arith, a)) (omega (arith, b)) (omega (arith, c)))

not-equal : (m n : ℕ) → (m ≡ n → ⊥) → (m == n) ≡ false
not-equal m n h = by (m == n) refl
  where
    by : (b : Bool) → (m == n) ≡ b → (m == n) ≡ false
    by true e = absurd (h (eqb-true m n e))
    by false e = e

picked-none : (o : Option ℕ) → picked_at none o ≡ None
picked-none None = refl
picked-none (Some i) = refl

picked-behind : (v : Value) (vs : Values) (o : Option ℕ) → picked_at (more v vs) (option_map suc o) ≡ picked_at vs o
picked-behind v vs None = refl
picked-behind v vs (Some i) = refl

module _ (s : Schema) where
  -- what stands at the number of a place
  pub place-stands : (q : ℕ) → q < length (all_places s) → slice_get (all_places s) q ≡ Some (place_at s q)
  place-stands q lt =
      let at = got (all_places s) q lt in
      at.1 ∙ ap Some (sym (ap or_nowhere at.1))

  -- the value of an instance of this form
  abbrev pub value_by_form : Option Form → Values → ℕ → Option Value
  value_by_form None vs q = None
  value_by_form (Some x) vs q = picked_at vs (position_among x.slots.items q)

  -- the value at the position of an attribute
  pub value-at-position : (o : Option Form) (vs : Values) (q i : ℕ) → position_among (slots_by_form o) q ≡ Some i
      → value_by_form o vs q ≡ nth vs i
  value-at-position None vs q i e = absurd (cc)
  value-at-position (Some x) vs q i e = ap (picked_at vs) e

  module _ (one : AreOne (all_places s)) (q : ℕ) (lt : q < length (all_places s)) where
    pub value-at-number : (xs : List SlotForm) (vs : Values)
        → Every (λ (y : SlotForm). y.place < length (all_places s)) xs
        → slot_at (slots_seen s xs vs) (place_at s q) ≡ picked_at vs (position_among xs q)
    value-at-number [] vs h = refl
    value-at-number (x ∷ xs) none h = sym (picked-none (position_among (x ∷ xs) q))
    value-at-number (x ∷ xs) (more v vs) h =
        ap (λ (b : Bool). cond b (Some v) (slot_at (slots_seen s xs vs) (place_at s q)))
        (sym (one-told (all_places s) one x.place q (place_at s x.place) (place_at s q) (place-stands x.place h.0)
        (place-stands q lt)))
        ∙ by (x.place == q) (value-at-number xs vs h.1)
      where
        by : (b : Bool) → slot_at (slots_seen s xs vs) (place_at s q) ≡ picked_at vs (position_among xs q)
            → cond b (Some v) (slot_at (slots_seen s xs vs) (place_at s q))
            ≡ picked_at (more v vs) (cond b (Some 0) (option_map suc (position_among xs q)))
        by true rest = refl
        by false rest = rest ∙ sym (picked-behind v vs (position_among xs q))

    pub value-of-form : (y k : ℕ) (o : Option Form) (vs : Values) → ArePlaced s o
        → value_in (Some (instance_seen s y k o vs)) (place_at s q) ≡ value_by_form o vs q
    value-of-form y k None vs h = refl
    value-of-form y k (Some x) vs h = value-at-number x.slots.items vs h

-- no attribute has a number beyond all
module _ (s : Schema) (q : ℕ) (le : length (all_places s) ≤ q) where
  beyond-slots : (xs : List SlotForm) → Every (λ (y : SlotForm). y.place < length (all_places s)) xs
      → position_among xs q ≡ None
  beyond-slots [] h = refl
  beyond-slots (x ∷ xs) h =
      let other : (x.place == q) ≡ false = not-equal x.place q (λ e. let lt = h.0 in omega (arith, lt, le, e)) in
      ap (λ (b : Bool). cond b (Some 0) (option_map suc (position_among xs q))) other
      ∙ ap (option_map suc) (beyond-slots xs h.1)

  pub beyond-form : (o : Option Form) → ArePlaced s o → position_among (slots_by_form o) q ≡ None
  beyond-form None h = refl
  beyond-form (Some x) h = beyond-slots x.slots.items h

pub types-of-form : (s : Schema) (y k : ℕ) (o : Option Form) (vs : Values)
    → types_in (Some (instance_seen s y k o vs)) ≡ map (name_at s) (types_by_form o)
types-of-form s y k None vs = refl
types-of-form s y k (Some x) vs = refl

pub every-at : {A : Type 0} (P : A → Type 0) (xs : List A) (i : ℕ) (x : A) → Every P xs → slice_get xs i ≡ Some x → P x
every-at P [] i x h e = absurd (cc)
every-at P (y ∷ xs) zero x h e = let same : y ≡ x = cc in subst P same h.0
every-at P (y ∷ xs) (suc i) x h e = every-at P xs i x h.1 e

-- how many nodes values have
module _ (s : Schema) where
  nodes-in-slots : (xs : List SlotForm) (vs : Values) → value_count vs ≤ length xs
      → nodes_in vs ≡ sum_by (λ (x : Slot). nodes_of x.value) (slots_seen s xs vs)
  nodes-in-slots [] none h = refl
  nodes-in-slots [] (more v vs) h = absurd (omega (arith, h))
  nodes-in-slots (x ∷ xs) none h = refl
  nodes-in-slots (x ∷ xs) (more v vs) h =
      let rest = nodes-in-slots xs vs (omega (arith, h)) in
      let all = sum_by-cons (λ (x : Slot). nodes_of x.value) (record { place = place_at s x.place; value = v })
      (slots_seen s xs vs) in
      omega (arith, rest, all)

  nodes-in-form : (y k : ℕ) (o : Option Form) (vs : Values) → value_count vs ≤ slot_count o
      → nodes_in vs ≡ sum_by (λ (x : Slot). nodes_of x.value) (instance_seen s y k o vs).slots
  nodes-in-form y k None none h = refl
  nodes-in-form y k None (more v vs) h = absurd (omega (arith, h))
  nodes-in-form y k (Some x) vs h = nodes-in-slots x.slots.items vs h

  pub nodes-in-rows : (forms : List Form) (ns ks : List ℕ) (fs : List (Option ℕ)) (vss : List Values)
      → length ks ≡ length ns → length fs ≡ length ns → length vss ≡ length ns → HaveSlots forms fs vss
      → sum_by nodes_in vss ≡ nodes_seen (instances_seen s forms ns ks fs vss)
  nodes-in-rows forms [] ks fs [] a b c h = refl
  nodes-in-rows forms [] ks fs (vs ∷ vss) a b c h = absurd (omega (arith, c))
  nodes-in-rows forms (n ∷ ns) [] fs vss a b c h = absurd (omega (arith, a))
  nodes-in-rows forms (n ∷ ns) (k ∷ ks) [] vss a b c h = absurd (omega (arith, b))
  nodes-in-rows forms (n ∷ ns) (k ∷ ks) (f ∷ fs) [] a b c h = absurd (omega (arith, c))
  nodes-in-rows forms (n ∷ ns) (k ∷ ks) (f ∷ fs) (vs ∷ vss) a b c h =
      let first = nodes-in-form n k (form_among forms f) vs h.0 in
      let rest = nodes-in-rows forms ns ks fs vss (omega (arith, a)) (omega (arith, b)) (omega (arith, c)) h.1 in
      let left = sum_by-cons nodes_in vs vss in
      let right = sum_by-cons (λ (i : Instance). sum_by (λ (x : Slot). nodes_of x.value) i.slots)
      (instance_seen s n k (form_among forms f) vs) (instances_seen s forms ns ks fs vss) in
      left ∙ (λ i. first i + rest i) ∙ sym right

-- the value and the types of an instance of a population, by its row
module _ (p : Population) where
  abbrev pub schema_seen : Schema
  schema_seen = the_schema p.types.now.names

  is-kept : IsKept p
  is-kept = kept p

  pub population-length : length (population_seen p) ≡ length p.exchange.now.names
  population-length =
      seen-length schema_seen p.rows.forms.items p.exchange.now.names _ p.rows.form_of.items p.values.rows
      is-kept.sections is-kept.forms is-kept.values

  pub population-nodes : sum_by nodes_in p.values.rows ≡ nodes_seen (population_seen p)
  population-nodes =
      ∥∥₁_elim p.typed (ℕ_set _ _) (λ w. nodes-in-rows schema_seen p.rows.forms.items p.exchange.now.names _
      p.rows.form_of.items p.values.rows is-kept.sections is-kept.forms is-kept.values w.whole.slots)

  pub row-within : (y i : ℕ) → found p.rows.index y ≡ Some i → i < length p.exchange.now.names
  row-within y i e = within p.exchange.now.names i (sym (is-kept.index y) ∙ e)
    where
      within : (ns : List ℕ) (j : ℕ) → place_of ns y ≡ Some j → j < length ns
      within [] j h = absurd (cc)
      within (n ∷ ns) j h = by (n == y) h (within ns)
        where
          behind : (o : Option ℕ) → ((k : ℕ) → o ≡ Some k → k < length ns) → option_map suc o ≡ Some j
              → j < suc (length ns)
          behind None rest g = absurd (cc)
          behind (Some k) rest g =
              let lt = rest k refl in
              let same : suc k ≡ j = cc in
              omega (arith, lt, same)

          by : (t : Bool) → cond t (Some 0) (option_map suc (place_of ns y)) ≡ Some j
              → ((k : ℕ) → place_of ns y ≡ Some k → k < length ns) → j < suc (length ns)
          by true g rest = let same : 0 ≡ j = cc in omega (arith, same)
          by false g rest = behind (place_of ns y) rest g

  pub row-of-name : (y : ℕ) (o : Option ℕ) → o ≡ found p.rows.index y → IfSome o (λ i. i < length (population_seen p))
  row-of-name y None e = tt
  row-of-name y (Some i) e = subst (λ n. i < n) (sym population-length) (row-within y i (sym e))

  pub no-instance : (y : ℕ) → found p.rows.index y ≡ None → instance_at (population_seen p) y ≡ None
  no-instance y e =
      seen-none schema_seen p.rows.forms.items p.exchange.now.names _ p.rows.form_of.items p.values.rows y
      (sym (is-kept.index y) ∙ e)

  pub no-value : (y : ℕ) (at : Place) → found p.rows.index y ≡ None → value_of (population_seen p) y at ≡ None
  no-value y at e = ap (λ o. value_in o at) (no-instance y e)

  pub no-types : (y : ℕ) → found p.rows.index y ≡ None → types_at (population_seen p) y ≡ []
  no-types y e = ap types_in (no-instance y e)

  module _ (y i : ℕ) (e : found p.rows.index y ≡ Some i) where
    pub instance-there : IsSeen schema_seen p.rows.forms.items p.exchange.now.names
        (section_numbers 0 0 p.exchange.now.sections.items) p.rows.form_of.items p.values.rows y i
    instance-there =
        seen-at schema_seen p.rows.forms.items p.exchange.now.names _ p.rows.form_of.items p.values.rows y i
        is-kept.sections is-kept.forms is-kept.values (sym (is-kept.index y) ∙ e)

    pub value-there : (q : ℕ) → q < length (all_places schema_seen)
        → value_of (population_seen p) y (place_at schema_seen q)
        ≡ value_by_form schema_seen (form_among p.rows.forms.items instance-there.form) instance-there.values q
    value-there q lt =
        ap (λ o. value_in o (place_at schema_seen q)) instance-there.is
        ∙ value-of-form schema_seen is-kept.one q lt y instance-there.section
        (form_among p.rows.forms.items instance-there.form) instance-there.values
        (every-at _ p.rows.form_of.items i instance-there.form is-kept.placed instance-there.at_form)

    pub position-beyond : (q : ℕ) → length (all_places schema_seen) ≤ q
        → position_among (slots_by_form (form_in_rows p.rows i)) q ≡ None
    position-beyond q le =
        ap (λ o. position_among (slots_by_form o) q)
        (form-of-row schema_seen p.rows i instance-there.form instance-there.at_form)
        ∙ beyond-form schema_seen q le (form_among p.rows.forms.items instance-there.form)
        (every-at _ p.rows.form_of.items i instance-there.form is-kept.placed instance-there.at_form)

    pub types-there : types_at (population_seen p) y
        ≡ map (name_at schema_seen) (types_by_form (form_among p.rows.forms.items instance-there.form))
    types-there =
        ap types_in instance-there.is
        ∙ types-of-form schema_seen y instance-there.section (form_among p.rows.forms.items instance-there.form)
        instance-there.values

    -- its form, as it is asked for
    module _ (f : Option Form) (is : f ≡ form_in_rows p.rows i) where
      form-is : f ≡ form_among p.rows.forms.items instance-there.form
      form-is = is ∙ form-of-row schema_seen p.rows i instance-there.form instance-there.at_form

      pub value-of-row : (q : ℕ) → q < length (all_places schema_seen)
          → value_of (population_seen p) y (place_at schema_seen q) ≡ value_by_form schema_seen f instance-there.values q
      value-of-row q lt =
          value-there q lt ∙ ap (λ g. value_by_form schema_seen g instance-there.values q) (sym form-is)

      pub types-of-row : types_at (population_seen p) y ≡ map (name_at schema_seen) (types_by_form f)
      types-of-row = types-there ∙ ap (λ g. map (name_at schema_seen) (types_by_form g)) (sym form-is)
