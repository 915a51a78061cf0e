-- The population that the tables are.
use Rattle.std.specs.Prelude.{◌≡◌, ℕ, zero, suc, ◌-◌, cond, List, [], ◌∷◌, ◌++◌, map, take, drop, Option, Some}
use Rattle.std.specs.List.{repeat}
use Rattle.std.proofs.Common.{refl, sym, ap, ◌∙◌}
use Rattle.express_syntax.specs.Schemas.{Schema}
use Rattle.schema_semantics.specs.Names.{Name}
use Rattle.schema_semantics.specs.Attributes.{Place}
use Rattle.step_structures.specs.Trees.{Tree, Trees, none, one, ExchangeRow}
use Rattle.step_exchange.specs.declared.section.Section.{Section}
use Rattle.step_exchange.specs.Sections.{sections_of}
use Rattle.step_values.specs.Leaves as leaves
use Rattle.step_values.specs.Values as values
use Rattle.step_values.specs.Views.{all_of}
use Rattle.schema_underlying_types.specs.BaseViews.{type_at}
use Rattle.conformance.specs.Bases.{Domain}
use Rattle.conformance.specs.Entities.{Entities, records, parameters, types_of, places_of, is_derived}
use Rattle.conformance.specs.ParameterFits.{Target, value_as}
use Rattle.conformance.specs.Populations.{Instance, first_base, value_at, slots_of, instance_of, instances_from}
use Rattle.population_rows.specs.declared.form.SlotForm.{SlotForm}
use Rattle.population_rows.specs.declared.form.Form.{Form}
use Rattle.population_forms.specs.steps.Forms.{AreSlotsOf, IsSlotOf, IsFormOf}
use Rattle.typed_populations.specs.Rows.{or_nowhere, place_at, slots_seen, instance_seen, instances_seen, section_numbers}
use Rattle.typed_populations.specs.PopulationTables.{form_among}
use Rattle.population_reader.specs.steps.Making.{first_asked, value_by, values_by, row_by, rows_by}
use Rattle.parameter_fits.specs.steps.References.{IsFound}
use Rattle.conformance.specs.ParameterFits.{absent}
use Rattle.std.specs.Prelude.{◌⊎◌}
use Rattle.population_reader.proofs.Clean.{HasClean, AreClean}

module _ (s : Schema) (d : Domain) (en : Entities) where
  asked-first : (ks : List ℕ) → first_asked s d ks ≡ first_base s d en (map (type_at s) ks)
  asked-first [] = refl
  asked-first (k ∷ ks) = refl

  value-is : (types : List Name) (p : Place) (x : SlotForm) (t : Tree) → IsSlotOf s en types p x
      → value_by s d x t ≡ value_at s d en types p t
  value-is types p x t is =
      ap (λ b. cond b (values.leaf leaves.derived) (value_as s d (first_asked s d x.data_types.items) t)) is.derived
      ∙ ap (λ b. cond (is_derived s en types p) (values.leaf leaves.derived) (value_as s d b t))
      (asked-first x.data_types.items ∙ ap (first_base s d en) is.data_types)

  slots-are : (types : List Name) (ps : List Place) (xs : List SlotForm) (ts : Trees) → AreSlotsOf s en types ps xs
      → slots_seen s xs (all_of (values_by s d xs ts)) ≡ slots_of s d en types ps ts
  slots-are types [] [] ts h = refl
  slots-are types [] (x ∷ xs) ts h = absurd h
  slots-are types (p ∷ ps) [] ts h = absurd h
  slots-are types (p ∷ ps) (x ∷ xs) none h = refl
  slots-are types (p ∷ ps) (x ∷ xs) (one t ts) h =
      let place : place_at s x.place ≡ p = ap or_nowhere h.0.0 in
      let value = value-is types p x t h.0.1 in
      let more = slots-are types ps xs ts h.1 in
      λ k. record { place = place k; value = value k } ∷ more k

  instance-is : (k : ℕ) (r : ExchangeRow) (x : Form) → IsFormOf s en r.form x
      → instance_seen s r.name k (Some x) (row_by s d (Some x) r.form) ≡ instance_of s d en k r
  instance-is k r x is =
      let slots = slots-are (types_of s en r.form) (places_of s en r.form) x.slots.items (parameters (records r.form))
      is.slots in
      λ i. record { name = r.name; section = k; types = is.types i; slots = slots i }

  -- instances, each in the section of this number
  zipped : List ℕ → List ExchangeRow → List Instance
  zipped [] rs = []
  zipped (k ∷ ks) [] = []
  zipped (k ∷ ks) (r ∷ rs) = instance_of s d en k r ∷ zipped ks rs

  module _ (target : ℕ → Target) (find : ℕ → Option ℕ) (leads : (y : ℕ) → (target y ≡ absent) ⊎ IsFound find y)
      (forms : List Form) where
    first-is : (k : ℕ) (r : ExchangeRow) (o : Option ℕ) → HasClean s d en target find leads forms r o
        → instance_seen s r.name k (form_among forms o) (row_by s d (form_among forms o) r.form) ≡ instance_of s d en k r
    first-is k r o (x, at, is, types, fits) =
        ap (λ f. instance_seen s r.name k f (row_by s d f r.form)) at ∙ instance-is k r x is

    all-seen : (ks : List ℕ) (rs : List ExchangeRow) (os : List (Option ℕ)) → AreClean s d en target find leads forms rs os
        → instances_seen s forms (map (λ (r : ExchangeRow). r.name) rs) ks os (rows_by s d forms rs os) ≡ zipped ks rs
    unfolding zipped
    all-seen [] [] [] h = refl
    all-seen (k ∷ ks) [] [] h = refl
    all-seen ks [] (o ∷ os) h = absurd h
    all-seen ks (r ∷ rs) [] h = absurd h
    all-seen [] (r ∷ rs) (o ∷ os) h = refl
    all-seen (k ∷ ks) (r ∷ rs) (o ∷ os) h =
        let first = first-is k r o h.0 in
        let more = all-seen ks rs os h.1 in
        λ i. first i ∷ more i

  zipped-none : (ks : List ℕ) → zipped ks [] ≡ []
  unfolding zipped
  zipped-none [] = refl
  zipped-none (k ∷ ks) = refl

  -- a section of so many
  zipped-section : (n k : ℕ) (ks : List ℕ) (rs : List ExchangeRow) → zipped (repeat n (k ∷ []) ++ ks) rs
      ≡ map (instance_of s d en k) (take n rs) ++ zipped ks (drop n rs)
  unfolding zipped
  zipped-section zero k ks [] = refl
  zipped-section zero k ks (r ∷ rs) = refl
  zipped-section (suc n) k ks [] = sym (zipped-none ks)
  zipped-section (suc n) k ks (r ∷ rs) = ap (λ l. instance_of s d en k r ∷ l) (zipped-section n k ks rs)

  sections-are : (from k : ℕ) (ss : List Section) (rs : List ExchangeRow) → zipped (section_numbers from k ss) rs
      ≡ instances_from s d en k (sections_of from ss rs)
  unfolding zipped
  sections-are from k [] rs = refl
  sections-are from k (x ∷ ss) rs =
      zipped-section (x.past - from) k (section_numbers x.past (suc k) ss) rs
      ∙ ap (λ l. map (instance_of s d en k) (take (x.past - from) rs) ++ l)
      (sections-are x.past (suc k) ss (drop (x.past - from) rs))

  pub population-is : (target : ℕ → Target) (find : ℕ → Option ℕ)
      (leads : (y : ℕ) → (target y ≡ absent) ⊎ IsFound find y) (forms : List Form) (ss : List Section)
      (rs : List ExchangeRow) (os : List (Option ℕ)) → AreClean s d en target find leads forms rs os
      → instances_seen s forms (map (λ (r : ExchangeRow). r.name) rs) (section_numbers 0 0 ss) os (rows_by s d forms rs os)
      ≡ instances_from s d en 0 (sections_of 0 ss rs)
  population-is target find leads forms ss rs os h =
      all-seen target find leads forms (section_numbers 0 0 ss) rs os h ∙ sections-are 0 0 ss rs
