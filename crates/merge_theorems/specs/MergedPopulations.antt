-- Populations whose instances are merged by a map of names: an instance stays if its name is mapped
-- to itself, and each reference is mapped.
use Rattle.std.specs.Prelude.{ℕ, ◌==◌, List, map, filter}
use Rattle.step_values.specs.References.{renamed}
use Rattle.value_equality.specs.Rows.{Row, renamed_row}
use Rattle.conformance.specs.Populations.{Slot, Instance}

module _ (h : ℕ → ℕ) where
  abbrev pub led_slot : Slot → Slot
  led_slot x = record { place = x.place; value = renamed h x.value }

  abbrev pub led_instance : Instance → Instance
  led_instance i = record { name = i.name; section = i.section; types = i.types; slots = map led_slot i.slots }

  abbrev pub merged_instances : List Instance → List Instance
  merged_instances is = map led_instance (filter (λ (i : Instance). h i.name == i.name) is)

  -- the quotient consists of these rows, if h maps names to the first of their classes
  abbrev pub merged_rows : List Row → List Row
  merged_rows rows = map (renamed_row h) (filter (λ (r : Row). h r.name == r.name) rows)
