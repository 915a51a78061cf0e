-- What is asked of the values of an instance, by its form.
use Rattle.std.specs.Prelude.{◌≡◌, ℕ, zero, suc, ◌+◌, ◌<◌, true, List, [], ◌∷◌, length, map, Option, None, Some, slice_get, ◌↔◌}
use Rattle.std.specs.Global.{Vec}
use Rattle.std.specs.List.{AllZip}
use Rattle.std.proofs.Common.{refl, sym, ap, subst, arith, inl, inr}
use Rattle.step_values.specs.steps.Slots.{nth}
use Rattle.step_values.specs.Values.{Value, Values, none, more}
use Rattle.express_syntax.specs.Schemas.{Schema, DataType}
use Rattle.express_syntax.specs.Profile.{Every}
use Rattle.schema_semantics.specs.Names.{OneOf}
use Rattle.schema_semantics.specs.Attributes.{Place}
use Rattle.schema_names.specs.Numbers.{HasNumber}
use Rattle.schema_explicit_attributes.specs.Places.{all_places}
use Rattle.conformance.specs.Bases.{Base, Domain, IsDomain, base}
use Rattle.conformance.specs.Entities.{Entities, AreEntities, data_types}
use Rattle.conformance.specs.Populations.{Slot}
use Rattle.schema_underlying_types.specs.BaseEntries.{is_entity_at}
use Rattle.schema_underlying_types.specs.BaseViews.{name_at}
use Rattle.schema_redeclarations.specs.declared.uses.Uses.{Uses}
use Rattle.schema_redeclarations.specs.Uses.{AreUses}
use Rattle.population_rows.specs.declared.form.Form.{Form}
use Rattle.population_rows.specs.declared.form.SlotForm.{SlotForm}
use Rattle.population_forms.specs.steps.Slots.{uses_by}
use Rattle.conformance.specs.Elements.{HasUnique, HasUniqueValue}
use Rattle.typed_populations.specs.Rows.{or_nowhere, place_at, slots_seen, instance_seen}
use Rattle.typed_populations.specs.PopulationTables.{form_among, ArePlaced, HaveEntities, AreNumbered}
use Rattle.population_pins.specs.steps.Elements.{Question}
use Rattle.population_pins.specs.steps.Gathering.{Gathers}
use Rattle.population_pins.specs.declared.weak_pin_lists.Gathered.{Gathered}
use Rattle.population_pins.proofs.Gathering.{gathers-alike}
use Rattle.population_pins.specs.declared.slots.UniqueSlot.{UniqueSlot}
use Rattle.population_pins.specs.steps.Slots.{slot_seen, HaveNumbers, slots_of, asked, form_slots, IsUniqueRow, IsRowOf, slots_at, HasUniqueAt}
use Rattle.population_pins.proofs.Asked.{nowhere, all-asked, types-are}
use Rattle.population_pins.proofs.Listed.{one-either, one-left, one-right}

place-there : (ps : List Place) (q : ℕ) → q < length ps → slice_get ps q ≡ Some (or_nowhere (slice_get ps q))
place-there [] q lt = absurd (omega (arith, lt))
place-there (p ∷ ps) zero lt = refl
place-there (p ∷ ps) (suc q) lt = place-there ps q (omega (arith, lt))

module _ (s : Schema) (t : Uses) (uses : AreUses s t) (d : Domain) (en : Entities) (g : AreEntities s en)
    (P : Values → Type 0) (types : List ℕ) (numbered : Every (λ i. HasNumber s (name_at s i) i) types)
    (entities : Every (λ i. is_entity_at s i ≡ true) types) (vs : Values) where
  -- what is said of a slot
  abbrev pub Said : Slot → Type 0
  Said x =
      OneOf (λ (k : DataType). HasUnique s d P (base d k) x.value) (data_types s en (map (name_at s) types) x.place)

  abbrev here : ℕ → SlotForm → List (ℕ × Base)
  here i x = slots_of d i (asked s (uses_by t types x.place))

  first-said : (i : ℕ) (w : Value) → nth vs i ≡ Some w → (x : SlotForm) → x.place < length (all_places s)
      → OneOf (HasUniqueAt s d P vs) (here i x) ↔ Said (record { place = place_at s x.place; value = w })
  first-said i w there x within =
      subst (λ ks. OneOf (HasUniqueAt s d P vs) (here i x) ↔ OneOf (λ (k : DataType). HasUnique s d P (base d k) w) ks)
      (types-are s t uses en g (place_at s x.place) x.place (place-there (all_places s) x.place within) types numbered
      entities)
      (all-asked s d P vs i w there (asked s (uses_by t types x.place)))

  -- the values from a position on
  pub row-said : (xs : List SlotForm) (i : ℕ) (ws : Values) → ((k : ℕ) → nth vs (i + k) ≡ nth ws k)
      → Every (λ (x : SlotForm). x.place < length (all_places s)) xs
      → OneOf (HasUniqueAt s d P vs) (form_slots s d t types i xs) ↔ OneOf Said (slots_seen s xs ws)
  row-said [] i none same placed = ((λ h. h), (λ h. h))
  row-said [] i (more w ws) same placed = ((λ h. h), (λ h. h))
  row-said (x ∷ xs) i none same placed = (
    (λ h. elim (one-either (HasUniqueAt s d P vs) (here i x) (form_slots s d t types (i + 1) xs) h) [
      | inl m ↦
          absurd (nowhere s d P vs i (asked s (uses_by t types x.place))
          (subst (λ k. nth vs k ≡ None) (omega arith) (same 0)) m)
      | inr m ↦ absurd (empty xs ((row-said xs (i + 1) none (λ k. later k) placed.1).0 m))
    ]),
    (λ h. absurd h),
  )
    where
      later : (k : ℕ) → nth vs (i + 1 + k) ≡ nth none k
      later k = subst (λ j. nth vs j ≡ nth none k) (omega arith) (same (suc k))

      empty : (ys : List SlotForm) → OneOf Said (slots_seen s ys none) → ⊥
      empty [] h = h
      empty (y ∷ ys) h = h
  row-said (x ∷ xs) i (more w ws) same placed =
      let first = first-said i w (subst (λ k. nth vs k ≡ Some w) (omega arith) (same 0)) x placed.0 in
      let later : (k : ℕ) → nth vs (i + 1 + k) ≡ nth ws k = λ k. subst (λ j. nth vs j ≡ nth ws k) (omega arith)
      (same (suc k)) in
      let behind = row-said xs (i + 1) ws later placed.1 in (
        (λ h. elim (one-either (HasUniqueAt s d P vs) (here i x) (form_slots s d t types (i + 1) xs) h) [
          | inl m ↦ inl (first.0 m)
          | inr m ↦ inr (behind.0 m)
        ]),
        (λ h. elim h [
          | inl m ↦ one-left (HasUniqueAt s d P vs) (here i x) (form_slots s d t types (i + 1) xs) (first.1 m)
          | inr m ↦ one-right (HasUniqueAt s d P vs) (here i x) (form_slots s d t types (i + 1) xs) (behind.1 m)
        ]),
      )

-- the row of a form, where there is one
abbrev pub IsRowFor : Schema → Uses → Option Form → List UniqueSlot → Type 0
IsRowFor s t None row = row ≡ []
IsRowFor s t (Some x) row = IsUniqueRow s t x row

pub row-for : (s : Schema) (t : Uses) (forms : List Form) (rows : List (Vec UniqueSlot))
    → AllZip (IsRowOf s t) forms rows → (o : Option ℕ) → IsRowFor s t (form_among forms o) (slots_at rows o)
row-for s t forms rows h None = refl
row-for s t [] [] h (Some n) = refl
row-for s t [] (r ∷ rows) h (Some n) = absurd h
row-for s t (x ∷ forms) [] h (Some n) = absurd h
row-for s t (x ∷ forms) (r ∷ rows) h (Some zero) = h.0
row-for s t (x ∷ forms) (r ∷ rows) h (Some (suc n)) = row-for s t forms rows h.1 (Some n)

pub row-numbers : (s : Schema) (t : Uses) (o : Option Form) (row : List UniqueSlot) → IsRowFor s t o row
    → HaveNumbers s row
row-numbers s t None row h = subst (HaveNumbers s) (sym h) tt
row-numbers s t (Some x) row h = h.numbered

-- the types of a form have their numbers
abbrev pub HasNumbers : Schema → Option Form → Type 0
HasNumbers s None = Unit {0}
HasNumbers s (Some x) = AreNumbered s x

pub numbers-of : (s : Schema) (forms : List Form) (o : Option ℕ) → Every (AreNumbered s) forms
    → HasNumbers s (form_among forms o)
numbers-of s forms None h = tt
numbers-of s [] (Some n) h = tt
numbers-of s (x ∷ forms) (Some zero) h = h.0
numbers-of s (x ∷ forms) (Some (suc n)) h = numbers-of s forms (Some n) h.1

-- what is found by the row of its form is among the values of an instance
pub instance-said : (s : Schema) (t : Uses) → AreUses s t → (d : Domain) → IsDomain s d → (en : Entities)
    → AreEntities s en → (P : Values → Type 0) (n k : ℕ) (o : Option Form) (vs : Values) (row : List UniqueSlot)
    → IsRowFor s t o row → ArePlaced s o → HaveEntities s o → HasNumbers s o
    → OneOf (HasUniqueAt s d P vs) (map (slot_seen s) row) ↔ HasUniqueValue s d en P (instance_seen s n k o vs)
instance-said s t uses d is en g P n k None vs row h placed entities numbers =
    subst (λ l. OneOf (HasUniqueAt s d P vs) (map (slot_seen s) l) ↔ ⊥) (sym h) ((λ e. e), (λ e. e))
instance-said s t uses d is en g P n k (Some x) vs row h placed entities numbers =
    subst (λ l. OneOf (HasUniqueAt s d P vs) l ↔ HasUniqueValue s d en P (instance_seen s n k (Some x) vs))
    (sym (h.says d is))
    (row-said s t uses d en g P x.types.items numbers entities vs x.slots.items 0 vs
    (λ j. ap (nth vs) (omega arith)) placed)

-- What is found by the row of an instance's form is among its values, if the form has this number
-- and the tables are those of an equal schema.
module _ (r s : Schema) (same : r ≡ s) (t : Uses) (forms listed : List Form) (is : listed ≡ forms)
    (rows : List (Vec UniqueSlot)) (made : AllZip (IsRowOf r t) listed rows) (f : Option ℕ) (slots : List UniqueSlot)
    (at : slots ≡ slots_at rows f) where
  there : IsRowFor s t (form_among forms f) slots
  there =
      subst (IsRowFor s t (form_among forms f)) (sym at)
      (row-for s t forms rows
      (subst (λ l. AllZip (IsRowOf s t) l rows) is (subst (λ z. AllZip (IsRowOf z t) listed rows) same made)) f)

  pub have-numbers : HaveNumbers r slots
  have-numbers =
      subst (λ z. HaveNumbers z slots) (sym same) (row-numbers s t (form_among forms f) slots there)

  pub gathers-instance : AreUses s t → (d : Domain) → IsDomain s d → (en : Entities) → AreEntities s en
      → Every (AreNumbered s) listed → ArePlaced s (form_among forms f) → HaveEntities s (form_among forms f)
      → (P : Question → Values → Type 0) (n k : ℕ) (vs : Values) (old new : Gathered)
      → Gathers (λ q. OneOf (HasUniqueAt r d (P q) vs) (map (slot_seen r) slots)) old new
      → Gathers (λ q. HasUniqueValue s d en (P q) (instance_seen s n k (form_among forms f) vs)) old new
  gathers-instance uses d dom en g numbered placed entities P n k vs old new h =
      gathers-alike (λ q. OneOf (HasUniqueAt s d (P q) vs) (map (slot_seen s) slots))
      (λ q. HasUniqueValue s d en (P q) (instance_seen s n k (form_among forms f) vs)) old new
      (λ q. instance-said s t uses d dom en g (P q) n k (form_among forms f) vs slots there placed entities
      (numbers-of s forms f (subst (Every (AreNumbered s)) is numbered)))
      (subst (λ z. Gathers (λ q. OneOf (HasUniqueAt z d (P q) vs) (map (slot_seen z) slots)) old new) same h)
