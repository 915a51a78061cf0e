-- The attributes whose values aren't of wanted types, nor have elements of wanted types; and the forms whose
-- instances have no values of wanted types at any depth.
use Rattle.std.specs.Prelude.{◌≡◌, ℕ, Bool, true, false, ◌&&◌, List, [], map, Option, None, Some, slice_get, is_none}
use Rattle.std.specs.List.{list_all}
use Rattle.schema_underlying_types.specs.declared.base.Base.{Base}
use Rattle.schema_underlying_types.specs.BaseEntries.{entry}
use Rattle.schema_redeclarations.specs.declared.uses.AttributeUse.{AttributeUse}
use Rattle.schema_redeclarations.specs.declared.uses.Uses.{Uses}
use Rattle.population_rows.specs.declared.form.Form.{Form}
use Rattle.population_rows.specs.declared.form.SlotForm.{SlotForm}
use Rattle.population_forms.specs.steps.Slots.{uses_by}
use Rattle.typed_populations.specs.PopulationTables.{form_among, types_by_form}
use Rattle.rule_settings.specs.declared.setting.Setting.{Setting}
use Rattle.rule_plans.specs.declared.value_search.Seeker.{Seeker}
use Rattle.rule_plans.specs.declared.skipped_attributes.Unsought.{Unsought}
use Rattle.rule_plans.specs.steps.Coded.{by_number, elements_of, is_wanted, slots_in}
use Rattle.rule_plans.specs.steps.Flat.{has_flat_values}

module _ (x : Seeker) where
  -- neither the data type numbered j nor that of its elements is wanted
  abbrev pub is_unsought : ℕ → Bool
  is_unsought j = is_none (by_number x j).declared && is_none (elements_of x (by_number x j)).declared

  abbrev pub all_unsought : List AttributeUse → Bool
  all_unsought us = list_all (λ (u : AttributeUse). is_unsought u.data_type) us

  module _ (t : Uses) where
    -- none of these types declares the explicit attribute numbered q with a wanted data type, or with elements of one
    abbrev pub is_unsought_place : List ℕ → ℕ → Bool
    is_unsought_place types q = all_unsought (uses_by t types q)

    -- for each attribute of a form, whether no type of the form declares it with a wanted data type, or with elements
    -- of one
    abbrev pub unsought_of : Form → List Bool
    unsought_of f = map (λ (y : SlotForm). is_unsought_place f.types.items y.place) f.slots.items

    -- If the table marks an attribute, none of these types declares it with a wanted data type, or with elements of
    -- one.
    abbrev pub AreUnsought : List ℕ → List SlotForm → List Bool → Type 0
    AreUnsought types slots table =
        (i : ℕ) (y : SlotForm) → slice_get slots i ≡ Some y → is_wanted table i ≡ true
        → is_unsought_place types y.place ≡ true

    module _ (declared : List Base) where
      -- no value that fits the explicit attribute numbered q is of a wanted type, or has one inside, since its values
      -- are flat
      abbrev pub is_wholly_unsought : List ℕ → ℕ → Bool
      is_wholly_unsought types q = is_unsought_place types q && has_flat_values x.types.now (entry declared q)

      -- no value that fits one of these attributes is of a wanted type, or has one inside
      abbrev pub all_wholly_unsought : List ℕ → List SlotForm → Bool
      all_wholly_unsought types slots = list_all (λ (y : SlotForm). is_wholly_unsought types y.place) slots

      abbrev pub is_unsought_form : Form → Bool
      is_unsought_form f = all_wholly_unsought f.types.items f.slots.items

-- the table of a form, if there is one, otherwise empty
abbrev pub or_empty : Option (List Bool) → List Bool
or_empty None = []
or_empty (Some table) = table

abbrev pub table_by : List (List Bool) → Option ℕ → List Bool
table_by tables None = []
table_by tables (Some n) = or_empty (slice_get tables n)

-- the element of a table for the form with this number; false if there is none
abbrev pub says_form : List Bool → Option ℕ → Bool
says_form table None = false
says_form table (Some n) = is_wanted table n

-- the forms of the instances of a population
abbrev pub forms_in : Setting → List Form
forms_in S = S.extents.now.population.now.rows.forms.items

module _ (S : Setting) (wanted : List Bool) where
  -- the search for values of wanted types
  abbrev pub seeker_in : Seeker
  seeker_in = record {
    names = record { ref_ptr = (0, 0); now = S.extents.now.population.now.types.now.names };
    types = record { ref_ptr = (0, 0); now = S.tables.now.value_types };
    forms = record { ref_ptr = (0, 0); now = S.tables.now.data_types.forms.items };
    wanted = record { ref_ptr = (0, 0); now = wanted };
  }

  -- the tables of the forms of a population: one for each attribute of a form, and one for each form
  abbrev pub unsought_in : List (List Bool)
  unsought_in = map (unsought_of seeker_in S.tables.now.uses.now) (forms_in S)

  abbrev pub unsought_forms_in : List Bool
  unsought_forms_in = map (is_unsought_form seeker_in S.tables.now.uses.now S.tables.now.declared.items) (forms_in S)

  -- The tables are those of the forms of instances.
  pub record AreTables (u : Unsought) : Type 0 where
    pub attributes : map (λ v. v.items) u.attributes.items ≡ unsought_in
    pub forms : u.forms.items ≡ unsought_forms_in

  -- What the tables say of the attributes of a form is true.
  abbrev pub AreRight : List (List Bool) → Type 0
  AreRight tables =
      (o : Option ℕ)
      → AreUnsought seeker_in S.tables.now.uses.now (types_by_form (form_among (forms_in S) o))
      (slots_in (form_among (forms_in S) o)) (table_by tables o)

  -- What the table says of a form is true.
  abbrev pub IsRight : List Bool → Type 0
  IsRight table =
      (o : Option ℕ) → says_form table o ≡ true
      → all_wholly_unsought seeker_in S.tables.now.uses.now S.tables.now.declared.items
      (types_by_form (form_among (forms_in S) o)) (slots_in (form_among (forms_in S) o)) ≡ true
