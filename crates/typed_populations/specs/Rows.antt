-- The instances that rows of names, sections, forms and values represent.
use Rattle.std.specs.Prelude.{ℕ, suc, ◌-◌, List, [], ◌∷◌, ◌++◌, map, Option, None, Some, slice_get}
use Rattle.std.specs.List.{repeat}
use Rattle.express_syntax.specs.Schemas.{Schema}
use Rattle.schema_semantics.specs.Attributes.{Place}
use Rattle.schema_explicit_attributes.specs.Places.{all_places}
use Rattle.step_exchange.specs.declared.section.Section.{Section}
use Rattle.step_values.specs.Values.{Values, more}
use Rattle.schema_underlying_types.specs.BaseViews.{name_at}
use Rattle.population_rows.specs.declared.form.SlotForm.{SlotForm}
use Rattle.population_rows.specs.declared.form.Form.{Form}
use Rattle.conformance.specs.Populations.{Slot, Instance}
use Rattle.typed_populations.specs.PopulationTables.{form_among}

abbrev pub or_nowhere : Option Place → Place
or_nowhere None = ([], [])
or_nowhere (Some p) = p

-- the explicit attribute with this number
abbrev pub place_at : Schema → ℕ → Place
place_at s q = or_nowhere (slice_get (all_places s) q)

module _ (s : Schema) where
  abbrev pub slots_seen : List SlotForm → Values → List Slot
  slots_seen (x ∷ xs) (more v vs) = record { place = place_at s x.place; value = v } ∷ slots_seen xs vs
  slots_seen xs vs = []

  -- an instance of this form, with these values
  abbrev pub instance_seen : ℕ → ℕ → Option Form → Values → Instance
  instance_seen name section None vs = record { name = name; section = section; types = []; slots = [] }
  instance_seen name section (Some f) vs = record {
    name = name;
    section = section;
    types = map (name_at s) f.types.items;
    slots = slots_seen f.slots.items vs;
  }

  -- the instances that these names, sections, forms and values represent, row by row
  abbrev pub instances_seen : List Form → List ℕ → List ℕ → List (Option ℕ) → List Values → List Instance
  instances_seen forms (n ∷ ns) (k ∷ ks) (f ∷ fs) (vs ∷ vss) =
      instance_seen n k (form_among forms f) vs ∷ instances_seen forms ns ks fs vss
  instances_seen forms ns ks fs vss = []

-- the number of the data section of each instance, for sections numbered from k on, before which there are `from`
-- instances
abbrev pub section_numbers : ℕ → ℕ → List Section → List ℕ
section_numbers from k [] = []
section_numbers from k (x ∷ xs) = repeat (x.past - from) (k ∷ []) ++ section_numbers x.past (suc k) xs
