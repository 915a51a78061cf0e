-- The values of wanted types among those of an instance, each with the number of its type, by the tables of a schema
-- (ISO 10303-11, 9.1). What the code computes; nothing is promised here.
use Rattle.std.specs.Prelude.{ℕ, Bool, true, false, cond, List, [], ◌∷◌, ◌++◌, flat_map, Option, None, Some, slice_get}
use Rattle.step_values.specs.declared.slot.Kind.{Kind}
use Rattle.step_values.specs.declared.slot.Kind.TheVariants as kinds
use Rattle.step_values.specs.steps.Slots.{kind_of}
use Rattle.step_values.specs.Values as values
use Rattle.step_values.specs.Values.{Value, leaf, reference, Values, more}
use Rattle.schema_semantics.specs.Names.{Name}
use Rattle.schema_names.specs.Numbers.{number_of}
use Rattle.schema_names.specs.Schemas.{the_schema}
use Rattle.schema_data_types.specs.declared.forms.Form.{Form}
use Rattle.schema_data_types.specs.declared.forms.Form.TheVariants as forms
use Rattle.schema_underlying_types.specs.declared.base.Base.{Base}
use Rattle.schema_underlying_types.specs.declared.base.Base.TheVariants as bases
use Rattle.schema_underlying_types.specs.BaseEntries.{entry}
use Rattle.schema_redeclarations.specs.declared.uses.AttributeUse.{AttributeUse}
use Rattle.population_rows.specs.declared.form.Form.{Form as InstanceForm}
use Rattle.population_rows.specs.declared.form.SlotForm.{SlotForm}
use Rattle.population_forms.specs.steps.Slots.{uses_by}
use Rattle.express_logic.specs.Data.{Datum}
use Rattle.rule_values.specs.TableValues.{number_base, named_base, element_base, coded_datum}
use Rattle.rule_plans.specs.declared.value_search.Sought.{Sought}
use Rattle.rule_plans.specs.declared.value_search.Seeker.{Seeker}
use Rattle.rule_plans.specs.declared.values.Asked.{Asked}

-- the number of the type or entity that a data type names, if it is a name
abbrev pub named_in : Form → Option ℕ
named_in (forms.Named o) = o
named_in f = None

abbrev pub named_of : Option Form → Option ℕ
named_of None = None
named_of (Some f) = named_in f

-- the number of the type or entity that the data type numbered j names, if it is a name
abbrev pub named_at : List Form → ℕ → Option ℕ
named_at all j = named_of (slice_get all j)

abbrev pub or_false : Option Bool → Bool
or_false None = false
or_false (Some b) = b

-- the type numbered i is wanted
abbrev pub is_wanted : List Bool → ℕ → Bool
is_wanted wanted i = or_false (slice_get wanted i)

-- the number, if the type with that number is wanted
abbrev pub wanted_in : List Bool → Option ℕ → Option ℕ
wanted_in wanted None = None
wanted_in wanted (Some i) = cond (is_wanted wanted i) (Some i) None

abbrev pub sought : Option ℕ → Base → Sought
sought o c = record { declared = o; base = c }

-- the number of a defined type, and the datum of a value of that type
abbrev pub Told : Type 0
Told = ℕ × Datum

abbrev pub told_by : Option ℕ → Datum → List Told
told_by None d = []
told_by (Some i) d = (i, d) ∷ []

-- a value of this kind is one of its data type; the content of a typed value is of the type that is named there
abbrev pub is_whole : Kind → Bool
is_whole kinds.Unset = false
is_whole kinds.Derived = false
is_whole kinds.Typed = false
is_whole k = true

module _ (x : Seeker) where
  -- the data type numbered j
  abbrev pub by_number : ℕ → Sought
  by_number j = sought (wanted_in x.wanted.now (named_at x.forms.now j)) (number_base x.types.now j)

  -- the type called n
  abbrev pub by_name : Name → Sought
  by_name n = sought (wanted_in x.wanted.now (number_of (the_schema x.names.now) n)) (named_base x.types.now n)

  -- the data type of the elements of an aggregate; any other data type itself
  abbrev pub elements_by : Sought → Base → Sought
  elements_by q (bases.Aggregate a) = by_number a.element
  elements_by q b = q

  abbrev pub elements_of : Sought → Sought
  elements_of q = elements_by q q.base

  -- the value itself, if it is of a wanted type
  abbrev pub coded_itself : Option ℕ → Base → Value → List Told
  coded_itself o b v = cond (is_whole (kind_of v)) (told_by o (coded_datum x.types.now b v)) []

  -- the values of wanted types in a value: itself, its elements and the content of typed values
  abbrev mutual
    pub coded_values : Sought → Base → Value → List Told
    coded_values q b (leaf a) = coded_itself q.declared b (leaf a)
    coded_values q b (reference y) = coded_itself q.declared b (reference y)
    coded_values q b (values.typed n v) = coded_values (by_name n) (named_base x.types.now n) v
    coded_values q b (values.sequence vs) =
        coded_itself q.declared b (values.sequence vs) ++ coded_each (elements_of q) (element_base x.types.now b) vs
    coded_values q b (values.bag vs) =
        coded_itself q.declared b (values.bag vs) ++ coded_each (elements_of q) (element_base x.types.now b) vs

    pub coded_each : Sought → Base → Values → List Told
    coded_each q b values.none = []
    coded_each q b (more v vs) = coded_values q b v ++ coded_each q b vs

  -- the values of wanted types in the elements of an aggregate of this data type
  abbrev pub coded_elements : Sought → Base → Values → List Told
  coded_elements q b vs = coded_each (elements_of q) (element_base x.types.now b) vs

  -- the values of wanted types in a value, except itself
  abbrev pub coded_inside : Sought → Base → Value → List Told
  coded_inside q b (leaf a) = []
  coded_inside q b (reference y) = []
  coded_inside q b (values.typed n v) = coded_values (by_name n) (named_base x.types.now n) v
  coded_inside q b (values.sequence vs) = coded_elements q b vs
  coded_inside q b (values.bag vs) = coded_elements q b vs

  -- the values of wanted types in a value, if there is one
  abbrev pub coded_at : Sought → Base → Option Value → List Told
  coded_at q b None = []
  coded_at q b (Some v) = coded_values q b v

  -- the values of wanted types in a value, by the data types of each of these declarations
  abbrev pub coded_uses : Base → Option Value → List AttributeUse → List Told
  coded_uses b o us = flat_map (λ (u : AttributeUse). coded_at (by_number u.data_type) b o) us

  -- the values of wanted types in a value, by the declarations of the explicit attribute numbered q
  abbrev pub coded_place : Asked → ℕ → Option Value → List Told
  coded_place k q o = coded_uses (entry k.declared.now q) o (uses_by k.uses.now k.types.now q)

  -- the values of wanted types in each of these values, which are those of these attributes
  abbrev pub coded_slots : Asked → List SlotForm → Values → List Told
  coded_slots k (y ∷ ys) (more v vs) = coded_place k y.place (Some v) ++ coded_slots k ys vs
  coded_slots k ys vs = []

-- the attributes that an instance of a form has
abbrev pub slots_in : Option InstanceForm → List SlotForm
slots_in None = []
slots_in (Some f) = f.slots.items
