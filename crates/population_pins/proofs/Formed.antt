-- What pins the instances of a form, by numbers and by names.
use Rattle.std.specs.Prelude.{◌≡◌, ℕ, ◌<◌, ◌&&◌, ◌||◌, not, Bool, true, false, cond, IsTrue, List, [], ◌∷◌, ◌++◌, ◌+◌, length, map, take, filter_map, Option, None, Some, slice_get, bytes_eq, ◌⊎◌, ◌↔◌}
use Rattle.std.specs.List.{AllZip, list_any, cons_option}
use Rattle.std.proofs.Common.{refl, sym, ap, subst, ◌∙◌, inl, inr}
use Rattle.std.proofs.lemmas.Bool.{and_parts, and_from, or_cases, or_left, or_right}
use Rattle.graphs.specs.Graphs.{Graph, has, next}
use Rattle.express_syntax.specs.Schemas.{Schema, Declaration, type, entity, skipped}
use Rattle.express_syntax.specs.Profile.{Every}
use Rattle.schema_semantics.specs.Names.{Name, OneOf, Among, IsEntity, declaration_of}
use Rattle.schema_semantics.specs.Attributes.{Place}
use Rattle.schema_semantics.specs.Faults.{IsResolved}
use Rattle.schema_semantics.proofs.Lists.{every-at}
use Rattle.schema_names.specs.Numbers.{HasNumber}
use Rattle.schema_names.proofs.Numbers.{stands-at}
use Rattle.schema_explicit_attributes.specs.Supertypes.{AreAbove}
use Rattle.schema_explicit_attributes.specs.Places.{all_places}
use Rattle.schema_explicit_attributes.proofs.Repeats.{AreOne}
use Rattle.schema_underlying_types.specs.BaseEntries.{is_some_entity, is_entity_at}
use Rattle.schema_underlying_types.specs.BaseViews.{name_at}
use Rattle.conformance.specs.Entities.{Entities, AreEntities, is_leaf}
use Rattle.conformance.specs.ParameterFits.{is_listed}
use Rattle.conformance.specs.Populations.{Slot, Instance, slot_at}
use Rattle.population_forms.specs.steps.Marked.{is_above}
use Rattle.population_rows.specs.declared.form.Form.{Form}
use Rattle.population_rows.specs.declared.form.SlotForm.{SlotForm}
use Rattle.population_forms.proofs.Naming.{among-is}
use Rattle.population_forms.proofs.Kindred.{below-is}
use Rattle.conformance.specs.Pins.{HasUnchosenLeaf, OccursAt}
use Rattle.conformance.specs.Rules as rules
use Rattle.schema_constraints.specs.declared.uniques.UniqueRule.{UniqueRule}
use Rattle.schema_constraints.specs.RuleViews.{unique_seen, IsNumberedUnique}
use Rattle.merge_choices.specs.ChosenEntities.{is_chosen, AreMarked}
use Rattle.merge_choices.specs.declared.choice.Chosen.{Chosen}
use Rattle.typed_populations.specs.ValueOrder.{position_among, picked_at}
use Rattle.typed_populations.specs.Rows.{place_at, slots_seen}
use Rattle.typed_populations.specs.PopulationTables.{AreNumbered}
use Rattle.typed_populations.proofs.Found.{value-at-number}
use Rattle.population_inverses.proofs.Held.{take-next}
use Rattle.step_values.specs.steps.Slots.{nth}
use Rattle.step_values.specs.Values.{Values}
use Rattle.population_pins.specs.steps.Forms.{has_unchosen_leaf, states_rule, key_positions, keys_by}
use Rattle.population_pins.specs.steps.Rows.{ArePinned, StandsInKey}

pub zip-more : {A B : Type 0} (R : A → B → Type 0) (xs : List A) (k : ℕ) (x : A) (old new : List B) (y : B)
    → slice_get xs k ≡ Some x → AllZip R (take k xs) old → R x y → new ≡ old ++ y ∷ []
    → AllZip R (take (k + 1) xs) new
zip-more R xs k x old new y at h one is =
    subst (λ l. AllZip R l new) (sym (take-next xs k x at))
    (subst (AllZip R (take k xs ++ x ∷ [])) (sym is) (joined (take k xs) old h))
  where
    joined : (zs : List _) (ws : List _) → AllZip R zs ws → AllZip R (zs ++ x ∷ []) (ws ++ y ∷ [])
    joined [] [] h = (one, tt)
    joined [] (w ∷ ws) h = absurd h
    joined (z ∷ zs) [] h = absurd h
    joined (z ∷ zs) (w ∷ ws) h = (h.0, joined zs ws h.1)

-- a test of one of some items
any-one : {A : Type 0} (test : A → Bool) (P : A → Type 0) (xs : List A)
    → ((x : A) → Among x xs → IsTrue (test x) ↔ P x) → IsTrue (list_any test xs) ↔ OneOf P xs
any-one test P [] h = ((λ e. absurd (cc)), (λ n. absurd n))
any-one test P (x ∷ xs) h = (
  (λ e. elim (or_cases (test x) (list_any test xs) e) [
    | inl k ↦ inl ((h x (inl refl)).0 k)
    | inr k ↦ inr ((any-one test P xs (λ y m. h y (inr m))).0 k)
  ]),
  (λ t. elim t [
    | inl p ↦ or_left (test x) (list_any test xs) ((h x (inl refl)).1 p)
    | inr q ↦ or_right (test x) (list_any test xs) ((any-one test P xs (λ y m. h y (inr m))).1 q)
  ]),
)

-- `P` holds for one of the images of some items exactly if it holds, through the map, for one of
-- the items.
one-mapped : {A B : Type 0} (f : A → B) (P : B → Type 0) (xs : List A)
    → OneOf P (map f xs) ↔ OneOf (λ x. P (f x)) xs
one-mapped f P [] = ((λ n. n), (λ n. n))
one-mapped f P (x ∷ xs) = (
  (λ t. elim t [ inl p ↦ inl p | inr q ↦ inr ((one-mapped f P xs).0 q) ]),
  (λ t. elim t [ inl p ↦ inl p | inr q ↦ inr ((one-mapped f P xs).1 q) ]),
)

not-false : (b : Bool) → IsTrue (not b) ↔ (b ≡ false)
not-false true = ((λ e. absurd (cc)), (λ e. absurd (cc)))
not-false false = ((λ e. refl), (λ e. refl))

module _ (s : Schema) (resolved : IsResolved s) (above : Graph) (are-above : AreAbove s above) (en : Entities)
    (are : AreEntities s en) where
  -- one of the types is below it
  below-told : (n : Name) (j : ℕ) → HasNumber s n j → (xs : List ℕ)
      → Every (λ i. HasNumber s (name_at s i) i) xs
      → is_leaf s en (map (name_at s) xs) n ≡ not (is_above above xs j)
  below-told n j k xs each = ap not (told xs each)
    where
      told : (ys : List ℕ) → Every (λ i. HasNumber s (name_at s i) i) ys
          → list_any (λ t. en.is_kind_of t n && not (bytes_eq t n)) (map (name_at s) ys) ≡ is_above above ys j
      told [] each = refl
      told (i ∷ ys) each =
          ap (λ b. b || list_any (λ t. en.is_kind_of t n && not (bytes_eq t n)) (map (name_at s) ys))
          (below-is s resolved above are-above en are (name_at s i) n i j each.0 k)
          ∙ ap (λ b. has (next above i) j || b) (told ys each.1)

  entity-of : (i : ℕ) → HasNumber s (name_at s i) i → is_entity_at s i ≡ true → IsEntity s (name_at s i)
  entity-of i h e = by (slice_get s.declarations i) (stands-at s (name_at s i) i h) e
    where
      by : (o : Option Declaration) → declaration_of s.declarations (name_at s i) ≡ o → is_some_entity o ≡ true
          → IsEntity s (name_at s i)
      by None at t = absurd (cc)
      by (Some (type d)) at t = absurd (cc)
      by (Some (entity d)) at t = (d, at)
      by (Some (skipped d)) at t = absurd (cc)

  module _ (names : List Name) (c : Chosen) (chosen : AreMarked s names c) (types : List ℕ)
      (numbered : Every (λ i. HasNumber s (name_at s i) i) types)
      (entities : Every (λ i. is_entity_at s i ≡ true) types) where
    -- a type that no other is below isn't chosen
    unchosen-one : (i : ℕ) → Among i types → IsTrue (not (is_chosen c i) && not (is_above above types i))
        ↔ (IsTrue (is_leaf s en (map (name_at s) types) (name_at s i)) × (is_listed (name_at s i) names ≡ false))
    unchosen-one i m = (
      (λ t. (let (free, leaf) = and_parts (not (is_chosen c i)) (not (is_above above types i)) t in
          (below ∙ leaf, sym told ∙ (not-false (is_chosen c i)).0 free))),
      (λ (leaf, free). and_from (not (is_chosen c i)) (not (is_above above types i))
          ((not-false (is_chosen c i)).1 (told ∙ free)) (sym below ∙ leaf)),
    )
      where
        number : HasNumber s (name_at s i) i
        number = every-at (λ j. HasNumber s (name_at s j) j) i types numbered m

        told : is_chosen c i ≡ is_listed (name_at s i) names
        told =
            chosen (name_at s i) i
            (entity-of i number (every-at (λ j. is_entity_at s j ≡ true) i types entities m)) number

        below : is_leaf s en (map (name_at s) types) (name_at s i) ≡ not (is_above above types i)
        below = below-told (name_at s i) i number types numbered

    pub unchosen : IsTrue (has_unchosen_leaf above c types) ↔ HasUnchosenLeaf s en names (map (name_at s) types)
    unchosen =
        let any = any-one (λ i. not (is_chosen c i) && not (is_above above types i))
        (λ i. IsTrue (is_leaf s en (map (name_at s) types) (name_at s i)) × (is_listed (name_at s i) names ≡ false)) types
        unchosen-one in
        let mapped = one-mapped (name_at s)
        (λ e. IsTrue (is_leaf s en (map (name_at s) types) e) × (is_listed e names ≡ false)) types in
        ((λ t. mapped.1 (any.0 t)), (λ h. any.1 (mapped.0 h)))

-- one of the types states a uniqueness rule
module _ (s : Schema) (uniques : List UniqueRule) (each : Every (IsNumberedUnique s) uniques) (types : List ℕ)
    (numbered : Every (λ i. HasNumber s (name_at s i) i) types) where
  stated-one : (u : UniqueRule) → Among u uniques → has types u.entity
      ≡ is_listed (unique_seen s u).entity (map (name_at s) types)
  stated-one u m =
      sym (among-is s (name_at s u.entity) u.entity (every-at (IsNumberedUnique s) u uniques each m).entity types numbered)

  pub states : IsTrue (states_rule uniques types)
      ↔ OneOf (λ (u : rules.UniqueRule). IsTrue (is_listed u.entity (map (name_at s) types))) (map (unique_seen s) uniques)
  states =
      let any = any-one (λ (u : UniqueRule). has types u.entity)
      (λ (u : UniqueRule). IsTrue (is_listed (unique_seen s u).entity (map (name_at s) types))) uniques
      (λ u m. ((λ t. sym (stated-one u m) ∙ t), (λ t. stated-one u m ∙ t))) in
      let mapped = one-mapped (unique_seen s) (λ (u : rules.UniqueRule). IsTrue (is_listed u.entity (map (name_at s) types)))
      uniques in
      ((λ t. mapped.1 (any.0 t)), (λ h. any.1 (mapped.0 h)))

-- Q holds where there is something
abbrev Where : (ℕ → Type 0) → Option ℕ → Type 0
Where Q None = ⊥
Where Q (Some p) = Q p

one-joined : (P : ℕ → Type 0) (xs ys : List ℕ) → OneOf P (xs ++ ys) ↔ (OneOf P xs ⊎ OneOf P ys)
one-joined P [] ys = ((λ h. inr h), (λ t. elim t [ inl n ↦ absurd n | inr h ↦ h ]))
one-joined P (x ∷ xs) ys = (
  (λ t. elim t [
    | inl p ↦ inl (inl p)
    | inr h ↦ elim ((one-joined P xs ys).0 h) [ inl k ↦ inl (inr k) | inr k ↦ inr k ]
  ]),
  (λ t. elim t [
    | inl h ↦ elim h [ inl p ↦ inl p | inr k ↦ inr ((one-joined P xs ys).1 (inl k)) ]
    | inr k ↦ inr ((one-joined P xs ys).1 (inr k))
  ]),
)

one-filtered : (Q : ℕ → Type 0) (f : ℕ → Option ℕ) (xs : List ℕ)
    → OneOf Q (filter_map f xs) ↔ OneOf (λ x. Where Q (f x)) xs
one-filtered Q f [] = ((λ n. n), (λ n. n))
one-filtered Q f (x ∷ xs) = by (f x) (one-filtered Q f xs)
  where
    by : (o : Option ℕ) → OneOf Q (filter_map f xs) ↔ OneOf (λ z. Where Q (f z)) xs
        → OneOf Q (cons_option o (filter_map f xs)) ↔ (Where Q o ⊎ OneOf (λ z. Where Q (f z)) xs)
    by None h = ((λ k. inr (h.0 k)), (λ t. elim t [ inl n ↦ absurd n | inr k ↦ h.1 k ]))
    by (Some p) h = (
      (λ t. elim t [ inl q ↦ inl q | inr k ↦ inr (h.0 k) ]),
      (λ t. elim t [ inl q ↦ inl q | inr k ↦ inr (h.1 k) ]),
    )

one-alike : {A : Type 0} (P Q : A → Type 0) (xs : List A) → ((x : A) → Among x xs → P x ↔ Q x)
    → OneOf P xs ↔ OneOf Q xs
one-alike P Q [] h = ((λ n. n), (λ n. n))
one-alike P Q (x ∷ xs) h =
    let more = one-alike P Q xs (λ y m. h y (inr m)) in (
      (λ t. elim t [ inl p ↦ inl ((h x (inl refl)).0 p) | inr q ↦ inr (more.0 q) ]),
      (λ t. elim t [ inl p ↦ inl ((h x (inl refl)).1 p) | inr q ↦ inr (more.1 q) ]),
    )

-- The keys of an instance, by where their parts stand.
module _ (s : Schema) (one : AreOne (all_places s)) (x : Form) (numbered : AreNumbered s x)
    (placed : Every (λ (z : SlotForm). z.place < length (all_places s)) x.slots.items) (y : ℕ) (vs : Values) where
  abbrev At : ℕ → Type 0
  At p = OccursAt y (nth vs p)

  abbrev types : List Name
  types = map (name_at s) x.types.items

  abbrev slots : List Slot
  slots = slots_seen s x.slots.items vs

  at-position : (q : ℕ) → q < length (all_places s)
      → Where At (position_among x.slots.items q) ↔ OccursAt y (slot_at slots (place_at s q))
  at-position q lt =
      subst (λ o. Where At (position_among x.slots.items q) ↔ OccursAt y o)
      (sym (value-at-number s one q lt x.slots.items vs placed)) (by (position_among x.slots.items q))
    where
      by : (o : Option ℕ) → Where At o ↔ OccursAt y (picked_at vs o)
      by None = ((λ n. n), (λ n. n))
      by (Some p) = ((λ h. h), (λ h. h))

  in-places : (qs : List ℕ) → Every (λ q. q < length (all_places s)) qs
      → OneOf At (filter_map (position_among x.slots.items) qs)
      ↔ OneOf (λ (p : Place). OccursAt y (slot_at slots p)) (map (place_at s) qs)
  in-places qs each =
      let filtered = one-filtered At (position_among x.slots.items) qs in
      let alike = one-alike (λ q. Where At (position_among x.slots.items q))
      (λ q. OccursAt y (slot_at slots (place_at s q))) qs
      (λ q m. at-position q (every-at (λ k. k < length (all_places s)) q qs each m)) in
      let mapped = one-mapped (place_at s) (λ (p : Place). OccursAt y (slot_at slots p)) qs in
      ((λ h. mapped.1 (alike.0 (filtered.0 h))), (λ h. filtered.1 (alike.1 (mapped.0 h))))

  in-key : (u : UniqueRule) → IsNumberedUnique s u → OneOf At (key_positions u x)
      ↔ (IsTrue (is_listed (unique_seen s u).entity types)
      × OneOf (λ (p : Place). OccursAt y (slot_at slots p)) (unique_seen s u).places)
  in-key u h =
      subst (λ b. OneOf At (key_positions u x) ↔ (IsTrue b × Named)) (sym told) (by (has x.types.items u.entity))
    where
      Named : Type 0
      Named = OneOf (λ (p : Place). OccursAt y (slot_at slots p)) (map (place_at s) u.places.items)

      told : is_listed (name_at s u.entity) types ≡ has x.types.items u.entity
      told = among-is s (name_at s u.entity) u.entity h.entity x.types.items numbered

      places : OneOf At (filter_map (position_among x.slots.items) u.places.items) ↔ Named
      places = in-places u.places.items h.places

      by : (b : Bool) → OneOf At (cond b (filter_map (position_among x.slots.items) u.places.items) [])
          ↔ (IsTrue b × Named)
      by true = ((λ k. (refl, places.0 k)), (λ (t, k). places.1 k))
      by false = ((λ n. absurd n), (λ (t, k). absurd (cc)))

  pub in-keys : (uniques : List UniqueRule) → Every (IsNumberedUnique s) uniques
      → OneOf At (keys_by uniques x)
      ↔ OneOf (λ (u : rules.UniqueRule). IsTrue (is_listed u.entity types)
      × OneOf (λ (p : Place). OccursAt y (slot_at slots p)) u.places) (map (unique_seen s) uniques)
  in-keys [] each = ((λ n. n), (λ n. n))
  in-keys (u ∷ uniques) each =
      let joined = one-joined At (key_positions u x) (keys_by uniques x) in
      let first = in-key u each.0 in
      let more = in-keys uniques each.1 in (
        (λ h. elim (joined.0 h) [ inl k ↦ inl (first.0 k) | inr k ↦ inr (more.0 k) ]),
        (λ h. joined.1 (elim h [ inl k ↦ inl (first.1 k) | inr k ↦ inr (more.1 k) ])),
      )
