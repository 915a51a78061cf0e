-- What the data types of an attribute ask of its value, by number.
use Rattle.std.specs.Prelude.{◌≡◌, ℕ, Bool, true, false, cond, List, [], ◌∷◌, ◌++◌, map, Option, None, Some, slice_get, ◌↔◌}
use Rattle.std.proofs.Common.{refl, sym, ap, subst, ◌∙◌, inl, inr}
use Rattle.std.proofs.lemmas.List.{map-append}
use Rattle.step_values.specs.steps.Slots.{nth}
use Rattle.step_values.specs.Values.{Value, Values}
use Rattle.express_syntax.specs.Schemas.{Schema, Declaration, type, entity, skipped, Explicit, DataType}
use Rattle.express_syntax.specs.Profile.{Every}
use Rattle.schema_semantics.specs.Names.{OneOf, IsEntity}
use Rattle.schema_semantics.specs.Attributes.{Place}
use Rattle.schema_names.specs.Numbers.{HasNumber}
use Rattle.schema_names.proofs.Numbers.{stands-at}
use Rattle.conformance.specs.Bases.{Base, Domain, base}
use Rattle.conformance.specs.Entities.{Entities, AreEntities, declarations_by, data_types}
use Rattle.schema_underlying_types.specs.BaseEntries.{is_some_entity, is_entity_at}
use Rattle.schema_underlying_types.specs.BaseViews.{name_at, type_at}
use Rattle.schema_redeclarations.specs.declared.uses.AttributeUse.{AttributeUse}
use Rattle.schema_redeclarations.specs.declared.uses.Uses.{Uses}
use Rattle.schema_redeclarations.specs.Uses.{HasPlace, of_place, uses_at, seen, said, AreUses}
use Rattle.population_forms.specs.steps.Slots.{uses_by}
use Rattle.conformance.specs.Elements.{HasUnique}
use Rattle.population_pins.specs.steps.Elements.{Question}
use Rattle.population_pins.specs.steps.Gathering.{Gathers}
use Rattle.population_pins.specs.declared.weak_pin_lists.Gathered.{Gathered}
use Rattle.population_pins.proofs.Gathering.{gathers-alike}
use Rattle.population_pins.specs.steps.Holding.{may_hold}
use Rattle.population_pins.specs.steps.Slots.{slot_by, slots_of, asked, HasUniqueAt}
use Rattle.population_pins.proofs.Unheld.{none-held}
use Rattle.population_pins.proofs.Listed.{one-either, one-left, one-right}

same-value : (v w : Value) (o : Option Value) → o ≡ Some v → o ≡ Some w → v ≡ w
same-value v w o e f = cc

no-value : (v : Value) (o : Option Value) → o ≡ Some v → o ≡ None → ⊥
no-value v o e f = cc

module _ (s : Schema) (d : Domain) (P : Values → Type 0) (vs : Values) (i : ℕ) where
  abbrev At : ℕ × Base → Type 0
  At = HasUniqueAt s d P vs

  -- where no value stands there is nothing
  one-nowhere : (k : DataType) → nth vs i ≡ None → OneOf At (slot_by d i k) → ⊥
  one-nowhere k e = by (may_hold d (base d k))
    where
      by : (b : Bool) → OneOf At (cond b ((i, base d k) ∷ []) []) → ⊥
      by true (inl (v, at, h)) = no-value v (nth vs i) at e
      by true (inr h) = h
      by false h = h

  pub nowhere : (ks : List DataType) → nth vs i ≡ None → OneOf At (slots_of d i ks) → ⊥
  nowhere [] e h = h
  nowhere (k ∷ ks) e h = elim (one-either At (slot_by d i k) (slots_of d i ks) h) [
    | inl m ↦ one-nowhere k e m
    | inr m ↦ nowhere ks e m
  ]

  module _ (w : Value) (there : nth vs i ≡ Some w) where
    one-asked : (k : DataType) → OneOf At (slot_by d i k) ↔ HasUnique s d P (base d k) w
    one-asked k = by (may_hold d (base d k)) refl
      where
        forth : OneOf At ((i, base d k) ∷ []) → HasUnique s d P (base d k) w
        forth (inl (v, at, h)) = subst (HasUnique s d P (base d k)) (same-value v w (nth vs i) at there) h
        forth (inr h) = absurd h

        by : (b : Bool) → may_hold d (base d k) ≡ b
            → OneOf At (cond b ((i, base d k) ∷ []) []) ↔ HasUnique s d P (base d k) w
        by true e = (forth, (λ h. inl (w, there, h)))
        by false e = ((λ h. absurd h), (λ h. absurd (none-held s d P (base d k) w e h)))

    pub all-asked : (ks : List DataType)
        → OneOf At (slots_of d i ks) ↔ OneOf (λ (k : DataType). HasUnique s d P (base d k) w) ks
    all-asked [] = ((λ h. h), (λ h. h))
    all-asked (k ∷ ks) = (
      (λ h. elim (one-either At (slot_by d i k) (slots_of d i ks) h) [
        | inl m ↦ inl ((one-asked k).0 m)
        | inr m ↦ inr ((all-asked ks).0 m)
      ]),
      (λ h. elim h [
        | inl m ↦ one-left At (slot_by d i k) (slots_of d i ks) ((one-asked k).1 m)
        | inr m ↦ one-right At (slot_by d i k) (slots_of d i ks) ((all-asked ks).1 m)
      ]),
    )

-- the value at a position
pub at-value : (s : Schema) (d : Domain) (P : Question → Values → Type 0) (vs : Values) (i : ℕ) (b : Base) (v : Value)
    (old new : Gathered) → Some v ≡ nth vs i → Gathers (λ q. HasUnique s d (P q) b v) old new
    → Gathers (λ q. HasUniqueAt s d (P q) vs (i, b)) old new
at-value s d P vs i b v old new at h =
    gathers-alike (λ q. HasUnique s d (P q) b v) (λ q. HasUniqueAt s d (P q) vs (i, b)) old new
    (λ q. (
      (λ k. (v, sym at, k)),
      (λ k. subst (HasUnique s d (P q) b) (same-value k.0 v (nth vs i) k.1 (sym at)) k.2),
    )) h

map-map : {A B C : Type 0} (f : A → B) (g : B → C) (xs : List A) → map g (map f xs) ≡ map (λ x. g (f x)) xs
map-map f g [] = refl
map-map f g (x ∷ xs) = ap (λ ys. g (f x) ∷ ys) (map-map f g xs)

module _ (s : Schema) where
  entity-of : (i : ℕ) → HasNumber s (name_at s i) i → is_entity_at s i ≡ true → IsEntity s (name_at s i)
  entity-of i h is = by (slice_get s.declarations i) refl is
    where
      by : (o : Option Declaration) → slice_get s.declarations i ≡ o → is_some_entity o ≡ true
          → IsEntity s (name_at s i)
      by None e k = absurd (cc)
      by (Some (type t)) e k = absurd (cc)
      by (Some (entity x)) e k = (x, stands-at s (name_at s i) i h ∙ e)
      by (Some (skipped p)) e k = absurd (cc)

  -- the data types with which types declare the attribute of a place
  module _ (t : Uses) (uses : AreUses s t) (en : Entities) (g : AreEntities s en) (p : Place) (q : ℕ)
      (at : HasPlace s p q) where
    first-are : (i : ℕ) → HasNumber s (name_at s i) i → is_entity_at s i ≡ true
        → asked s (of_place q (uses_at t i)) ≡ map (λ (x : Explicit). x.data_type) (en.declarations (name_at s i) p)
    first-are i h is =
        sym (map-map (seen s) (λ (y : DataType × Bool). y.0) (of_place q (uses_at t i)))
        ∙ ap (map (λ (y : DataType × Bool). y.0)) (uses.explicit en g (name_at s i) i (entity-of i h is) h p q at)
        ∙ map-map said (λ (y : DataType × Bool). y.0) (en.declarations (name_at s i) p)

    pub types-are : (xs : List ℕ) → Every (λ i. HasNumber s (name_at s i) i) xs
        → Every (λ i. is_entity_at s i ≡ true) xs
        → asked s (uses_by t xs q) ≡ data_types s en (map (name_at s) xs) p
    types-are [] numbered entities = refl
    types-are (i ∷ xs) numbered entities =
        map-append (λ (u : AttributeUse). type_at s u.data_type) (of_place q (uses_at t i)) (uses_by t xs q)
        ∙ ap (λ ys. ys ++ asked s (uses_by t xs q)) (first-are i numbered.0 entities.0)
        ∙ ap (λ ys. map (λ (x : Explicit). x.data_type) (en.declarations (name_at s i) p) ++ ys)
        (types-are xs numbered.1 entities.1)
        ∙ sym (map-append (λ (x : Explicit). x.data_type) (en.declarations (name_at s i) p)
        (declarations_by s en (map (name_at s) xs) p))
