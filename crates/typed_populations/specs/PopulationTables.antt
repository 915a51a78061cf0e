-- The tables of a population, and when they are consistent.
use Rattle.std.specs.Prelude.{◌≡◌, ⊤, ℕ, ◌<◌, ◌≤◌, true, List, [], ◌∷◌, Option, None, Some, length, slice_get}
use Rattle.express_syntax.specs.Schemas.{Schema}
use Rattle.express_syntax.specs.Profile.{Every}
use Rattle.schema_names.specs.Numbers.{HasNumber}
use Rattle.schema_explicit_attributes.specs.Places.{all_places}
use Rattle.population_rows.specs.Index.{found, place_of}
use Rattle.schema_underlying_types.specs.BaseEntries.{is_entity_at}
use Rattle.schema_underlying_types.specs.BaseViews.{name_at}
use Rattle.step_values.specs.steps.Building.{Kept}
use Rattle.step_values.specs.AgreementTests.{value_count}
use Rattle.step_values.specs.steps.Targets.{LeadTo, ReferTo}
use Rattle.step_values.specs.Values.{Values}
use Rattle.population_rows.specs.declared.form.SlotForm.{SlotForm}
use Rattle.population_rows.specs.declared.form.Form.{Form}
use Rattle.population_rows.specs.declared.rows.Rows.{Rows}

-- the form with this number, if any
abbrev pub form_among : List Form → Option ℕ → Option Form
form_among forms None = None
form_among forms (Some n) = slice_get forms n

-- the types of an instance of this form
abbrev pub types_by_form : Option Form → List ℕ
types_by_form None = []
types_by_form (Some x) = x.types.items

-- the attributes of an instance of this form
abbrev pub slots_by_form : Option Form → List SlotForm
slots_by_form None = []
slots_by_form (Some x) = x.slots.items

-- the attributes of a form have numbers of explicit attributes of the schema
abbrev pub ArePlaced : Schema → Option Form → Type 0
ArePlaced s None = ⊤
ArePlaced s (Some x) = Every (λ (y : SlotForm). y.place < length (all_places s)) x.slots.items

-- each type of a form is the number of the declaration with the name at it
abbrev pub AreNumbered : Schema → Form → Type 0
AreNumbered s x = Every (λ i. HasNumber s (name_at s i) i) x.types.items

-- the types of a form are entities
abbrev pub HaveEntities : Schema → Option Form → Type 0
HaveEntities s None = ⊤
HaveEntities s (Some x) = Every (λ i. is_entity_at s i ≡ true) x.types.items

-- how many attributes an instance of a form has
abbrev pub slot_count : Option Form → ℕ
slot_count None = 0
slot_count (Some x) = length x.slots.items

-- no instance has more values than its form has attributes
abbrev pub HaveSlots : List Form → List (Option ℕ) → List Values → Type 0
HaveSlots forms (o ∷ os) (vs ∷ rows) = (value_count vs ≤ slot_count (form_among forms o)) × HaveSlots forms os rows
HaveSlots forms os rows = ⊤

-- Each name is found at its row. Each row has a form and values; forms have entities and attributes of the schema.
-- Each reference is to the name of a row, and has the number of that row.
pub record IsWhole (s : Schema) (names : List ℕ) (t : Rows) (v : Kept) : Type 0 where
  pub index : (y : ℕ) → found t.index y ≡ place_of names y
  pub forms : length t.form_of.items ≡ length names
  pub values : length v.rows ≡ length names
  pub placed : Every (λ o. ArePlaced s (form_among t.forms.items o)) t.form_of.items
  pub entities : Every (λ o. HaveEntities s (form_among t.forms.items o)) t.form_of.items
  pub numbered : Every (AreNumbered s) t.forms.items
  pub slots : HaveSlots t.forms.items t.form_of.items v.rows
  pub leads : LeadTo names v.targets
  pub refers : ReferTo names v.rows
