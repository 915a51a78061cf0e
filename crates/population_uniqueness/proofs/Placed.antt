-- The key of an instance, by where the attributes of a rule stand in its form.
use Rattle.std.specs.Prelude.{◌≡◌, ⊤, ℕ, zero, suc, ◌<◌, Bool, true, false, cond, List, [], ◌∷◌, length, map, Option, Some, None, slice_get, Vec}
use Rattle.std.proofs.Common.{refl, ◌∙◌, ap}
use Rattle.step_values.specs.Values.{Value, Values}
use Rattle.step_values.specs.steps.Slots.{nth}
use Rattle.graphs.specs.Graphs.{has}
use Rattle.express_syntax.specs.Schemas.{Schema}
use Rattle.express_syntax.specs.Profile.{Every}
use Rattle.schema_explicit_attributes.specs.Places.{all_places}
use Rattle.schema_explicit_attributes.proofs.Repeats.{AreOne}
use Rattle.schema_underlying_types.specs.BaseViews.{name_at}
use Rattle.population_rows.specs.declared.form.SlotForm.{SlotForm}
use Rattle.population_rows.specs.declared.form.Form.{Form}
use Rattle.population_forms.proofs.Naming.{among-is}
use Rattle.conformance.specs.RuleFindings.{given, with_part, parts, key}
use Rattle.schema_constraints.specs.declared.uniques.UniqueRule.{UniqueRule}
use Rattle.schema_constraints.specs.RuleViews.{unique_seen, IsNumberedUnique}
use Rattle.typed_populations.specs.ValueOrder.{picked_at, position_among}
use Rattle.typed_populations.specs.Rows.{place_at, slots_seen, instance_seen}
use Rattle.typed_populations.specs.PopulationTables.{form_among, ArePlaced, AreNumbered}
use Rattle.typed_populations.proofs.Found.{value-at-number}
use Rattle.population_uniqueness.specs.steps.Positions.{numbers_in, with_position, positions_of, positions_by, if_there, positions_among}
use Rattle.population_uniqueness.specs.steps.Parts.{parts_by}

-- where the attributes of a rule are in a form, if there is one
abbrev pub positions_in : UniqueRule → Option Form → Option (List ℕ)
positions_in u None = None
positions_in u (Some x) = positions_by u x

no_parts : (o : Option Value) → with_part o None ≡ None
no_parts None = refl
no_parts (Some v) = refl

with_place : (vs : Values) (o : Option ℕ) (p : Option (List ℕ))
    → with_part (given (picked_at vs o)) (parts_by vs p) ≡ parts_by vs (with_position o p)
with_place vs None p = refl
with_place vs (Some i) None = no_parts (given (nth vs i))
with_place vs (Some i) (Some is) = refl

-- the types of a form have their numbers, where there is one
abbrev pub IsNumberedForm : Schema → Option Form → Type 0
IsNumberedForm s None = ⊤
IsNumberedForm s (Some x) = AreNumbered s x

pub numbered_form : (s : Schema) (forms : List Form) → Every (AreNumbered s) forms → (f : Option ℕ)
    → IsNumberedForm s (form_among forms f)
numbered_form s forms h None = tt
numbered_form s forms h (Some n) = go forms n h
  where
    go : (xs : List Form) (i : ℕ) → Every (AreNumbered s) xs → IsNumberedForm s (slice_get xs i)
    go [] i k = tt
    go (x ∷ xs) zero k = k.0
    go (x ∷ xs) (suc i) k = go xs i k.1

module _ (s : Schema) (one : AreOne (all_places s)) where
  parts_are : (xs : List SlotForm) (vs : Values) → Every (λ (y : SlotForm). y.place < length (all_places s)) xs
      → (qs : List ℕ) → Every (λ q. q < length (all_places s)) qs
      → parts (map (place_at s) qs) (slots_seen s xs vs) ≡ parts_by vs (positions_of xs qs)
  parts_are xs vs h [] n = refl
  parts_are xs vs h (q ∷ qs) n =
      ap (λ v. with_part (given v) (parts (map (place_at s) qs) (slots_seen s xs vs)))
      (value-at-number s one q n.0 xs vs h)
      ∙ ap (with_part (given (picked_at vs (position_among xs q)))) (parts_are xs vs h qs n.1)
      ∙ with_place vs (position_among xs q) (positions_of xs qs)

  module _ (u : UniqueRule) (numbered : IsNumberedUnique s u) where
    pub key_is : (y k : ℕ) (o : Option Form) (vs : Values) → ArePlaced s o → IsNumberedForm s o
        → key (unique_seen s u) (instance_seen s y k o vs) ≡ parts_by vs (positions_in u o)
    key_is y k None vs h n = refl
    key_is y k (Some x) vs h n =
        ap (λ b. cond b (parts (map (place_at s) u.places.items) (slots_seen s x.slots.items vs)) None)
        (among-is s (name_at s u.entity) u.entity numbered.entity x.types.items n)
        ∙ ap (λ p. cond (has x.types.items u.entity) p None)
        (parts_are x.slots.items vs h u.places.items numbered.places)
        ∙ by (has x.types.items u.entity) (positions_of x.slots.items u.places.items)
      where
        by : (b : Bool) (p : Option (List ℕ)) → cond b (parts_by vs p) None ≡ parts_by vs (cond b p None)
        by true p = refl
        by false p = refl

-- what is known by form, of the form of a number
pub positions_found : {Z : Type 0} (u : UniqueRule) (all : List (Option (Vec ℕ Z))) (forms : List Form)
    → map numbers_in all ≡ map (positions_by u) forms → (f : Option ℕ)
    → numbers_in (positions_among all f) ≡ positions_in u (form_among forms f)
positions_found u all forms e None = refl
positions_found {Z} u all forms e (Some n) = go all forms n e
  where
    go : (os : List (Option (Vec ℕ Z))) (xs : List Form) (i : ℕ) → map numbers_in os ≡ map (positions_by u) xs
        → numbers_in (if_there (slice_get os i)) ≡ positions_in u (slice_get xs i)
    go [] [] i q = refl
    go [] (x ∷ xs) i q = absurd (cc)
    go (o ∷ os) [] i q = absurd (cc)
    go (o ∷ os) (x ∷ xs) zero q = cc
    go (o ∷ os) (x ∷ xs) (suc i) q = go os xs i (cc)
