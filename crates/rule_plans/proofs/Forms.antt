-- At an instance whose form says so no value that is sought stands.
use Rattle.std.specs.Prelude.{◌≡◌, ℕ, ◌<◌, Bool, true, ◌&&◌, List, [], ◌∷◌, ◌++◌, length, Option, None, Some, slice_get}
use Rattle.std.proofs.Common.{refl, sym, ap, subst, ◌∙◌, inl, inr}
use Rattle.step_values.specs.Leaves as leaves
use Rattle.step_values.specs.Leaves.{Leaf}
use Rattle.step_values.specs.steps.Slots.{kind_of}
use Rattle.step_values.specs.Values as values
use Rattle.step_values.specs.Values.{Value, leaf, reference, Values}
use Rattle.express_syntax.specs.Schemas.{Schema}
use Rattle.express_syntax.specs.Profile.{Every}
use Rattle.schema_semantics.specs.Names.{Name, Among}
use Rattle.schema_semantics.proofs.Lists.{every-at}
use Rattle.schema_names.specs.Schemas.{the_schema}
use Rattle.schema_explicit_attributes.specs.Places.{all_places}
use Rattle.schema_explicit_attributes.proofs.Distinct.{at-among}
use Rattle.conformance.specs.Bases as conformance
use Rattle.conformance.specs.Bases.{Domain, IsDomain, base}
use Rattle.conformance.specs.Entities.{Entities, AreEntities}
use Rattle.conformance.specs.ParameterFits.{inner}
use Rattle.conformance.specs.Populations.{Slot, Instance}
use Rattle.conformance.specs.Fits.{Typing, Fits, FitEach}
use Rattle.conformance.specs.Conforming.{Conforms, typing_of}
use Rattle.schema_underlying_types.specs.declared.base.Base.{Base}
use Rattle.schema_underlying_types.specs.declared.base.Base.TheVariants as bases
use Rattle.schema_underlying_types.specs.BaseEntries.{entry}
use Rattle.schema_underlying_types.specs.BaseViews.{aggregate_seen, base_seen}
use Rattle.schema_underlying_types.specs.Tables.{IsNumberedBase}
use Rattle.population_rows.specs.declared.form.Form.{Form}
use Rattle.population_rows.specs.declared.form.SlotForm.{SlotForm}
use Rattle.typed_populations.specs.steps.Instances.{IsInstance}
use Rattle.typed_populations.specs.Rows.{place_at, slots_seen, instance_seen}
use Rattle.typed_populations.specs.PopulationTables.{form_among, types_by_form, ArePlaced}
use Rattle.typed_populations.specs.declared.instances.InstanceRow.{InstanceRow}
use Rattle.typed_populations.proofs.Found.{kept}
use Rattle.population_inverses.proofs.Held.{numbers-of}
use Rattle.rule_values.specs.declared.types.ValueTypes.{ValueTypes}
use Rattle.rule_values.specs.TableValues.{element_base}
use Rattle.rule_values.specs.Tables.{AreValueTypes}
use Rattle.rule_names.specs.Tables.{AreDeclared}
use Rattle.rule_settings.specs.declared.setting.Setting.{Setting}
use Rattle.rule_settings.specs.Settings as settings
use Rattle.rule_settings.specs.Settings.{IsSetting, Meant, population_in}
use Rattle.rule_plans.specs.declared.value_search.Seeker.{Seeker}
use Rattle.rule_plans.specs.declared.values.Asked.{Asked}
use Rattle.rule_plans.specs.steps.Coded.{coded_place, coded_slots, slots_in}
use Rattle.rule_plans.specs.steps.Flat.{is_plain, are_plain, is_flat, has_plain_values, has_flat_values}
use Rattle.rule_plans.specs.steps.Seeking.{Agrees, Covers, those}
use Rattle.rule_plans.specs.steps.Speaking.{is_of, values_of}
use Rattle.rule_plans.specs.steps.Unsought.{is_unsought_place, is_wholly_unsought, all_wholly_unsought, seeker_in, forms_in}
use Rattle.rule_plans.proofs.Fitting.{declared-fits}
use Rattle.rule_plans.proofs.Passing.{first-of, second-of, place-none}
use Rattle.rule_plans.proofs.Placing.{got, place-there, MayFit, instance-same, one-instance}
use Rattle.rule_plans.proofs.Sifting.{those-joined, those-of-one}

-- a value that fits a data type whose values have no parts has none
leaf-plain : (a : Leaf) → is_plain (kind_of (leaf a)) ≡ true
leaf-plain leaves.unset = refl
leaf-plain leaves.derived = refl
leaf-plain (leaves.number z) = refl
leaf-plain (leaves.text c) = refl
leaf-plain (leaves.bits c) = refl
leaf-plain (leaves.element e) = refl

module _ (s : Schema) (d : Domain) (typing : Typing) where
  no-inner : (b : Base) (n : Name) (c : conformance.Base) → has_plain_values b ≡ true
      → inner s d (base_seen s b) n ≡ Some c → ⊥
  no-inner (bases.Select i) n c h e = absurd (cc)
  no-inner b n c h e = absurd (cc)

  no-elements : (b : Base) (a : conformance.Aggregate) → has_plain_values b ≡ true
      → base_seen s b ≡ conformance.aggregate a → ⊥
  no-elements (bases.Aggregate l) a h e = absurd (cc)
  no-elements b a h e = absurd (cc)

  plain-fits : (b : Base) → has_plain_values b ≡ true → (v : Value) → Fits s d typing (base_seen s b) v
      → is_plain (kind_of v) ≡ true
  plain-fits b h (leaf a) fits = leaf-plain a
  plain-fits b h (reference y) fits = refl
  plain-fits b h (values.typed n v) (c, e, fits) = absurd (no-inner b n c h e)
  plain-fits b h (values.sequence vs) g = absurd (no-elements b g.of h g.is_of)
  plain-fits b h (values.bag vs) g = absurd (no-elements b g.of h g.is_of)

  each-plain : (b : Base) → has_plain_values b ≡ true → (optional : Bool) (vs : Values)
      → FitEach s d typing optional (base_seen s b) vs → are_plain vs ≡ true
  each-plain b h optional values.none fits = refl
  each-plain b h optional (values.more v vs) (inl left, fits) =
      λ i. is_plain (kind_of (left.1 i)) && each-plain b h optional vs fits i
  each-plain b h optional (values.more v vs) (inr fit, fits) =
      λ i. plain-fits b h v fit i && each-plain b h optional vs fits i

  module _ (is : IsDomain s d) (t : ValueTypes) (are : AreValueTypes s t) where
    elements-as : (b : Base) → IsNumberedBase s b → (a : conformance.Aggregate) → base_seen s b ≡ conformance.aggregate a
        → base_seen s (element_base t b) ≡ base d a.element
    elements-as (bases.Aggregate l) known a e =
        let same : aggregate_seen s l ≡ a = cc in
        are.by_number d is l.element known ∙ ap (λ (z : conformance.Aggregate). base d z.element) same
    elements-as b known a e = absurd (cc)

    no-typed : (b : Base) (n : Name) (c : conformance.Base) → has_flat_values t b ≡ true
        → inner s d (base_seen s b) n ≡ Some c → ⊥
    no-typed (bases.Select i) n c h e = absurd (cc)
    no-typed b n c h e = absurd (cc)

    -- a value that fits a data type whose elements have no parts is flat
    pub flat-fits : (b : Base) → IsNumberedBase s b → has_flat_values t b ≡ true → (v : Value)
        → Fits s d typing (base_seen s b) v → is_flat v ≡ true
    flat-fits b known h (leaf a) fits = refl
    flat-fits b known h (reference y) fits = refl
    flat-fits b known h (values.typed n v) (c, e, fits) = absurd (no-typed b n c h e)
    flat-fits b known h (values.sequence vs) g =
        each-plain (element_base t b) h g.of.optional vs
        (subst (λ z. FitEach s d typing g.of.optional z vs) (sym (elements-as b known g.of g.is_of)) g.each)
    flat-fits b known h (values.bag vs) g =
        each-plain (element_base t b) h g.of.optional vs
        (subst (λ z. FitEach s d typing g.of.optional z vs) (sym (elements-as b known g.of g.is_of)) g.each)

module _ (x : Seeker) (are : AreValueTypes (the_schema x.names.now) x.types.now) (d : Domain)
    (is : IsDomain (the_schema x.names.now) d)
    (en : Entities) (g : AreEntities (the_schema x.names.now) en) (typing : Typing) (k : Asked)
    (declared : AreDeclared (the_schema x.names.now) k.declared.now) where
  abbrev s : Schema
  s = the_schema x.names.now

  abbrev is_wholly_unsought_at : ℕ → Bool
  is_wholly_unsought_at q = is_wholly_unsought x k.uses.now k.declared.now k.types.now q

  flat-at : (q : ℕ) (v : Value) → q < length (all_places s)
      → MayFit s d en typing (record { place = place_at s q; value = v })
      → has_flat_values x.types.now (entry k.declared.now q) ≡ true → is_flat v ≡ true
  flat-at q v lt (inl (inl e)) h = ap is_flat e
  flat-at q v lt (inl (inr e)) h = ap is_flat e
  flat-at q v lt (inr fits) h =
      let (b, there, same) = declared (place_at s q) q (place-there (all_places s) q lt) in
      flat-fits s d typing is x.types.now are b same.numbered
      (sym (ap (has_flat_values x.types.now) (got k.declared.now q b bases.Integer there)) ∙ h) v
      (subst (λ z. Fits s d typing z v) (sym (same.says d en is g)) fits)

  slot-none : (q : ℕ) (v : Value) → q < length (all_places s)
      → MayFit s d en typing (record { place = place_at s q; value = v }) → is_wholly_unsought_at q ≡ true
      → coded_place x k q (Some v) ≡ []
  slot-none q v lt fits e =
      let unsought : Bool = is_unsought_place x k.uses.now k.types.now q in
      let flat : Bool = has_flat_values x.types.now (entry k.declared.now q) in
      place-none x k q (Some v) (flat-at q v lt fits (second-of unsought flat e)) (first-of unsought flat e)

  slots-none : (ys : List SlotForm) (vs : Values) → Every (λ (y : SlotForm). y.place < length (all_places s)) ys
      → ((z : Slot) → Among z (slots_seen s ys vs) → MayFit s d en typing z)
      → all_wholly_unsought x k.uses.now k.declared.now k.types.now ys ≡ true → coded_slots x k ys vs ≡ []
  slots-none [] values.none placed fits e = refl
  slots-none [] (values.more v vs) placed fits e = refl
  slots-none (y ∷ ys) values.none placed fits e = refl
  slots-none (y ∷ ys) (values.more v vs) placed fits e =
      let rest : Bool = all_wholly_unsought x k.uses.now k.declared.now k.types.now ys in
      λ i. slot-none y.place v placed.0 (fits (record { place = place_at s y.place; value = v }) (inl refl))
      (first-of (is_wholly_unsought_at y.place) rest e) i
      ++ slots-none ys vs placed.1 (λ z m. fits z (inr m)) (second-of (is_wholly_unsought_at y.place) rest e) i

  -- of an instance that conforms
  pub instance-none : (o : Option Form) → ArePlaced s o → (n section : ℕ) (vs : Values)
      → Conforms s d typing en (instance_seen s n section o vs)
      → all_wholly_unsought x k.uses.now k.declared.now k.types.now (slots_in o) ≡ true → coded_slots x k (slots_in o) vs ≡ []
  instance-none None placed n section values.none c e = refl
  instance-none None placed n section (values.more v vs) c e = refl
  instance-none (Some f) placed n section vs c e =
      slots-none f.slots.items vs placed (declared-fits s d en g typing (instance_seen s n section (Some f) vs) c) e

module _ (S : Setting) (is : IsSetting S) (m : Meant S) (wanted : List Bool) (row : ℕ) (r : InstanceRow)
    (h : IsInstance S.extents.now.population.now row r) where
  abbrev form : Option Form
  form = form_among (forms_in S) r.form

  -- the instance of a row has no value that is sought
  pub no-value-there : all_wholly_unsought (seeker_in S wanted) S.tables.now.uses.now S.tables.now.declared.items (types_by_form form)
      (slots_in form) ≡ true
      → (x : Instance) → slice_get (population_in S) row ≡ Some x → (t : Name) (p : ℕ → Bool)
      → Agrees (settings.schema_in S) p (is_of S m t) → Covers (settings.schema_in S) wanted (is_of S m t)
      → values_of S m x t ≡ []
  no-value-there forms x at t p agrees covers =
      let s = settings.schema_in S in
      let is_in = population_in S in
      let seeker : Seeker = seeker_in S wanted in
      let asked : Asked = record {
        uses = record { ref_ptr = (0, 0); now = S.tables.now.uses.now };
        declared = record { ref_ptr = (0, 0); now = S.tables.now.declared.items };
        types = record { ref_ptr = (0, 0); now = types_by_form form };
      } in
      let y : Instance = instance_seen s r.name h.section form r.values in
      let conforms : Conforms s m.said.domain (typing_of is_in) m.said.entities y =
      every-at (Conforms s m.said.domain (typing_of is_in) m.said.entities) y is_in m.conforms (at-among is_in row y h.seen) in
      subst (λ (z : Instance). values_of S m z t ≡ []) (one-instance is_in row y x h.seen at)
      (sym (instance-same seeker (record { resolved = is.known.made.resolved; forms = is.tables.forms })
      is.tables.value_types m.said.domain m.said.is_domain m.said.entities m.said.are_entities m.said.attributes t (typing_of is_in) (those p) refl
      (those-joined p) (those-of-one s (is_of S m t) wanted p agrees covers) asked is.tables.uses is.tables.declared form
      (slots_in form) refl refl h.placed h.entities
      (numbers-of s (forms_in S) r.form (kept S.extents.now.population.now).numbered) r.name h.section r.values conforms)
      ∙ ap (those p) (instance-none seeker is.tables.value_types m.said.domain m.said.is_domain m.said.entities m.said.are_entities
      (typing_of is_in) asked is.tables.declared form h.placed r.name h.section r.values conforms forms))
