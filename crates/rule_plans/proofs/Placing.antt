-- The values of a defined type among those of an instance, attribute by attribute.
use Rattle.std.specs.Prelude.{◌≡◌, ℕ, zero, suc, ◌<◌, ◌==◌, Bool, true, false, cond, List, [], ◌∷◌, ◌++◌, map, flat_map, length, get_or, Option, None, Some, slice_get, ◌⊎◌}
use Rattle.std.specs.List.{filter}
use Rattle.std.proofs.Common.{refl, sym, ap, subst, ◌∙◌, inl, inr, arith}
use Rattle.std.proofs.lemmas.List.{map-append}
use Rattle.step_values.specs.Leaves.{unset, derived}
use Rattle.step_values.specs.Values.{Value, leaf, Values, none, more}
use Rattle.express_syntax.specs.Schemas.{Schema, Declaration, type, entity, skipped, Explicit, DataType}
use Rattle.express_syntax.specs.Profile.{Every}
use Rattle.schema_semantics.specs.Names.{Name, Among, IsEntity}
use Rattle.schema_semantics.specs.Attributes.{Place}
use Rattle.schema_semantics.proofs.Lists.{every-of}
use Rattle.graphs.specs.Graphs.{has}
use Rattle.schema_names.specs.Numbers.{HasNumber}
use Rattle.schema_names.specs.Schemas.{the_schema}
use Rattle.schema_names.proofs.Numbers.{stands-at}
use Rattle.schema_explicit_attributes.specs.Places.{all_places}
use Rattle.conformance.specs.Bases.{Domain, IsDomain}
use Rattle.conformance.specs.Entities.{Entities, AreEntities, declarations_by, data_types}
use Rattle.conformance.specs.ParameterFits.{is_listed}
use Rattle.conformance.specs.Populations.{Slot, Instance}
use Rattle.conformance.specs.Fits.{Typing, Fits}
use Rattle.conformance.specs.Conforming.{Conforms}
use Rattle.schema_underlying_types.specs.declared.base.Base.{Base}
use Rattle.schema_underlying_types.specs.declared.base.Base.TheVariants.{Integer}
use Rattle.schema_underlying_types.specs.BaseEntries.{is_some_entity, is_entity_at}
use Rattle.schema_underlying_types.specs.BaseViews.{name_at, type_at, base_seen}
use Rattle.schema_underlying_types.specs.Tables.{NamesKnownType, IsNumberedBase}
use Rattle.schema_redeclarations.specs.declared.uses.AttributeUse.{AttributeUse}
use Rattle.schema_redeclarations.specs.declared.uses.Uses.{Uses}
use Rattle.schema_redeclarations.specs.Uses.{HasPlace, of_place, uses_at, seen, said, AreUses}
use Rattle.population_rows.specs.declared.form.Form.{Form}
use Rattle.population_rows.specs.declared.form.SlotForm.{SlotForm}
use Rattle.population_forms.specs.steps.Slots.{uses_by}
use Rattle.population_forms.proofs.Naming.{among-is}
use Rattle.typed_populations.specs.Rows.{or_nowhere, place_at, slots_seen, instance_seen}
use Rattle.typed_populations.specs.PopulationTables.{types_by_form, ArePlaced, HaveEntities}
use Rattle.population_inverses.proofs.Held.{HasNumbers}
use Rattle.express_logic.specs.Data.{Datum}
use Rattle.conformance.specs.Attributes.{Attributes}
use Rattle.conformance.specs.DomainFindings.{values_of, in_slot}
use Rattle.conformance.specs.Values.{first_declared}
use Rattle.rule_values.specs.Tables.{AreValueTypes}
use Rattle.rule_names.specs.Tables.{AreDeclared}
use Rattle.rule_plans.specs.declared.value_search.Seeker.{Seeker}
use Rattle.rule_plans.specs.declared.values.Asked.{Asked}
use Rattle.rule_plans.specs.steps.Coded.{wanted_in, Told, told_by, by_number, coded_values, coded_uses, coded_place, coded_slots, slots_in}
use Rattle.rule_plans.specs.steps.Seeking.{IsSeeker, IsDeclared}
use Rattle.rule_plans.proofs.Fitting.{declared-fits}
use Rattle.rule_plans.proofs.Meaning.{sought-number, all-same}
use Rattle.rule_plans.proofs.Sifting.{told}

some-is : {A : Type 0} (x y : A) → Some x ≡ Some y → x ≡ y
some-is x y e = cc

pub got : {A : Type 0} (xs : List A) (i : ℕ) (x d : A) → slice_get xs i ≡ Some x → get_or xs i d ≡ x
got [] i x d e = absurd (cc)
got (y ∷ ys) zero x d e = cc
got (y ∷ ys) (suc i) x d e = got ys i x d e

pub place-there : (ps : List Place) (q : ℕ) → q < length ps → slice_get ps q ≡ Some (or_nowhere (slice_get ps q))
place-there [] q lt = absurd (omega (arith, lt))
place-there (p ∷ ps) zero lt = refl
place-there (p ∷ ps) (suc q) lt = place-there ps q (omega (arith, lt))

every-joined : {A : Type 0} (P : A → Type 0) (xs ys : List A) → Every P xs → Every P ys → Every P (xs ++ ys)
every-joined P [] ys h k = k
every-joined P (x ∷ xs) ys h k = (h.0, every-joined P xs ys h.1 k)

every-filtered : {A : Type 0} (P : A → Type 0) (test : A → Bool) (xs : List A) → Every P xs → Every P (filter test xs)
every-filtered P test [] h = tt
every-filtered P test (x ∷ xs) h = by (test x) (every-filtered P test xs h.1)
  where
    by : (b : Bool) → Every P (filter test xs) → Every P (cond b (x ∷ filter test xs) (filter test xs))
    by true k = (h.0, k)
    by false k = k

map-map : {A B C : Type 0} (f : A → B) (g : B → C) (xs : List A) → map g (map f xs) ≡ map (λ x. g (f x)) xs
map-map f g [] = refl
map-map f g (x ∷ xs) = ap (λ ys. g (f x) ∷ ys) (map-map f g xs)

-- the data types of declarations
abbrev pub asked : Schema → List AttributeUse → List DataType
asked s us = map (λ (u : AttributeUse). type_at s u.data_type) us

module _ (s : Schema) where
  entity-of : (i : ℕ) → HasNumber s (name_at s i) i → is_entity_at s i ≡ true → IsEntity s (name_at s i)
  entity-of i h is = by (slice_get s.declarations i) refl is
    where
      by : (o : Option Declaration) → slice_get s.declarations i ≡ o → is_some_entity o ≡ true
          → IsEntity s (name_at s i)
      by None e k = absurd (cc)
      by (Some (type t)) e k = absurd (cc)
      by (Some (entity x)) e k = (x, stands-at s (name_at s i) i h ∙ e)
      by (Some (skipped p)) e k = absurd (cc)

  module _ (t : Uses) (uses : AreUses s t) where
    -- the data types with which types declare the attribute of a place
    module _ (en : Entities) (g : AreEntities s en) (p : Place) (q : ℕ) (at : HasPlace s p q) where
      first-are : (i : ℕ) → HasNumber s (name_at s i) i → is_entity_at s i ≡ true
          → asked s (of_place q (uses_at t i)) ≡ map (λ (x : Explicit). x.data_type) (en.declarations (name_at s i) p)
      first-are i h is =
          sym (map-map (seen s) (λ (y : DataType × Bool). y.0) (of_place q (uses_at t i)))
          ∙ ap (map (λ (y : DataType × Bool). y.0)) (uses.explicit en g (name_at s i) i (entity-of i h is) h p q at)
          ∙ map-map said (λ (y : DataType × Bool). y.0) (en.declarations (name_at s i) p)

      types-are : (xs : List ℕ) → Every (λ i. HasNumber s (name_at s i) i) xs → Every (λ i. is_entity_at s i ≡ true) xs
          → asked s (uses_by t xs q) ≡ data_types s en (map (name_at s) xs) p
      types-are [] numbered entities = refl
      types-are (i ∷ xs) numbered entities =
          map-append (λ (u : AttributeUse). type_at s u.data_type) (of_place q (uses_at t i)) (uses_by t xs q)
          ∙ ap (λ ys. ys ++ asked s (uses_by t xs q)) (first-are i numbered.0 entities.0)
          ∙ ap (λ ys. map (λ (x : Explicit). x.data_type) (en.declarations (name_at s i) p) ++ ys)
          (types-are xs numbered.1 entities.1)
          ∙ sym (map-append (λ (x : Explicit). x.data_type) (en.declarations (name_at s i) p)
          (declarations_by s en (map (name_at s) xs) p))

    -- they are known
    known-uses : (q : ℕ) (xs : List ℕ)
        → Every (λ (u : AttributeUse). NamesKnownType s (type_at s u.data_type)) (uses_by t xs q)
    known-uses q [] = tt
    known-uses q (i ∷ xs) =
        every-joined (λ (u : AttributeUse). NamesKnownType s (type_at s u.data_type)) (of_place q (uses_at t i)) (uses_by t xs q)
        (every-filtered (λ (u : AttributeUse). NamesKnownType s (type_at s u.data_type)) (λ (u : AttributeUse). u.place == q)
        (uses_at t i) (every-of (λ (u : AttributeUse). NamesKnownType s (type_at s u.data_type)) (uses_at t i) (uses.known i)))
        (known-uses q xs)

-- A value is left out or derived, or fits a data type.
abbrev pub MayFit : Schema → Domain → Entities → Typing → Slot → Type 0
MayFit s d en typing z =
    ((z.value ≡ leaf unset) ⊎ (z.value ≡ leaf derived)) ⊎ Fits s d typing (first_declared s d en z.place) z.value

module _ (x : Seeker) (is_seeker : IsSeeker x) (are : AreValueTypes (the_schema x.names.now) x.types.now) (d : Domain)
    (is : IsDomain (the_schema x.names.now) d) (en : Entities) (g : AreEntities (the_schema x.names.now) en)
    (attributes : Attributes) (t : Name) (typing : Typing) (F : List Told → List Datum) (empty : F [] ≡ [])
    (joined : (xs ys : List Told) → F (xs ++ ys) ≡ F xs ++ F ys)
    (single : (o : Option ℕ) → IsDeclared (the_schema x.names.now) o → (z : Datum)
    → F (told_by (wanted_in x.wanted.now o) z)
    ≡ cond (told (the_schema x.names.now) (λ n. attributes.is_defined_by n t) o) (z ∷ []) []) (k : Asked) (uses : AreUses (the_schema x.names.now) k.uses.now)
    (declared : AreDeclared (the_schema x.names.now) k.declared.now) where
  abbrev s : Schema
  s = the_schema x.names.now

  uses-same : (b : Base) → IsNumberedBase s b → (v : Value)
      → ((v ≡ leaf unset) ⊎ (v ≡ leaf derived)) ⊎ Fits s d typing (base_seen s b) v → (us : List AttributeUse)
      → Every (λ (u : AttributeUse). NamesKnownType s (type_at s u.data_type)) us
      → F (coded_uses x b (Some v) us)
      ≡ flat_map (λ (l : DataType). values_of s d en attributes t l (base_seen s b) v) (asked s us)
  uses-same b known v fits [] all = empty
  uses-same b known v fits (u ∷ us) all =
      joined (coded_values x (by_number x u.data_type) b v) (coded_uses x b (Some v) us)
      ∙ (λ i. all-same x is_seeker are d is en attributes t typing F empty joined single (by_number x u.data_type)
      (type_at s u.data_type)
      (sought-number x is_seeker are d is en attributes t typing F empty joined single u.data_type all.0) b known v fits i
      ++ uses-same b known v fits us all.1 i)

  module _ (numbered : Every (λ i. HasNumber s (name_at s i) i) k.types.now)
      (entities : Every (λ i. is_entity_at s i ≡ true) k.types.now) where
    abbrev types : List Name
    types = map (name_at s) k.types.now

    slot-same : (y : SlotForm) (v : Value) → y.place < length (all_places s)
        → MayFit s d en typing (record { place = place_at s y.place; value = v })
        → F (coded_place x k y.place (Some v))
        ≡ in_slot s d en attributes t types (record { place = place_at s y.place; value = v })
    slot-same y v lt fits =
        let p : Place = place_at s y.place in
        let at : HasPlace s p y.place = place-there (all_places s) y.place lt in
        let (b, there, h) = declared p y.place at in
        let same : base_seen s b ≡ first_declared s d en p = h.says d en is g in
        let us : List AttributeUse = uses_by k.uses.now k.types.now y.place in
        ap (λ c. F (coded_uses x c (Some v) us)) (got k.declared.now y.place b Integer there)
        ∙ uses-same b h.numbered v
        (subst (λ z. ((v ≡ leaf unset) ⊎ (v ≡ leaf derived)) ⊎ Fits s d typing z v) (sym same) fits) us
        (known-uses s k.uses.now uses y.place k.types.now)
        ∙ ap (flat_map (λ (l : DataType). values_of s d en attributes t l (base_seen s b) v))
        (types-are s k.uses.now uses en g p y.place at k.types.now numbered entities)
        ∙ ap (λ z. flat_map (λ (l : DataType). values_of s d en attributes t l z v) (data_types s en types p)) same

    slots-same : (ys : List SlotForm) (vs : Values) → Every (λ (y : SlotForm). y.place < length (all_places s)) ys
        → ((z : Slot) → Among z (slots_seen s ys vs) → MayFit s d en typing z)
        → F (coded_slots x k ys vs) ≡ flat_map (in_slot s d en attributes t types) (slots_seen s ys vs)
    slots-same [] none placed fits = empty
    slots-same [] (more v vs) placed fits = empty
    slots-same (y ∷ ys) none placed fits = empty
    slots-same (y ∷ ys) (more v vs) placed fits =
        joined (coded_place x k y.place (Some v)) (coded_slots x k ys vs)
        ∙ (λ i. slot-same y v placed.0 (fits (record { place = place_at s y.place; value = v }) (inl refl)) i
        ++ slots-same ys vs placed.1 (λ z m. fits z (inr m)) i)

  -- an instance of no form has no values
  no-slots : (vs : Values) → F (coded_slots x k [] vs) ≡ []
  no-slots none = empty
  no-slots (more v vs) = empty

  -- of an instance that conforms
  pub instance-same : (o : Option Form) (ys : List SlotForm) → k.types.now ≡ types_by_form o → ys ≡ slots_in o
      → ArePlaced s o → HaveEntities s o → HasNumbers s o → (n section : ℕ) (vs : Values)
      → Conforms s d typing en (instance_seen s n section o vs)
      → F (coded_slots x k ys vs)
      ≡ flat_map (in_slot s d en attributes t (instance_seen s n section o vs).types)
      (instance_seen s n section o vs).slots
  instance-same None ys ts ss placed entities numbers n section vs c =
      ap (λ l. F (coded_slots x k l vs)) ss ∙ no-slots vs
  instance-same (Some f) ys ts ss placed entities numbers n section vs c =
      ap (λ l. F (coded_slots x k l vs)) ss
      ∙ slots-same (subst (Every (λ i. HasNumber s (name_at s i) i)) (sym ts) numbers)
      (subst (Every (λ i. is_entity_at s i ≡ true)) (sym ts) entities) f.slots.items vs placed
      (declared-fits s d en g typing (instance_seen s n section (Some f) vs) c)
      ∙ ap (λ l. flat_map (in_slot s d en attributes t (map (name_at s) l)) (slots_seen s f.slots.items vs)) ts

-- the instance that stands at a row is one
pub one-instance : (is : List Instance) (row : ℕ) (x y : Instance) → slice_get is row ≡ Some x
    → slice_get is row ≡ Some y → x ≡ y
one-instance is row x y at there = some-is x y (sym at ∙ there)

-- an instance of a form is of an entity where the number of the entity is among those of its types
pub is-of-entity : (s : Schema) (i : ℕ) → HasNumber s (name_at s i) i → (o : Option Form) → HasNumbers s o
    → (n section : ℕ) (vs : Values)
    → is_listed (name_at s i) (instance_seen s n section o vs).types ≡ has (types_by_form o) i
is-of-entity s i h None numbers n section vs = refl
is-of-entity s i h (Some f) numbers n section vs = among-is s (name_at s i) i h f.types.items numbers
