-- The values of instances that can be, or can contain, a LIST or ARRAY OF UNIQUE, by form. What the
-- code computes; no promise stands here.
use Rattle.std.specs.Prelude.{◌≡◌, ℕ, ◌+◌, cond, List, [], ◌∷◌, ◌++◌, Option, None, Some, drop, map, slice_get}
use Rattle.std.specs.Global.{Vec}
use Rattle.express_syntax.specs.Schemas.{Schema, DataType}
use Rattle.express_syntax.specs.Profile.{Every}
use Rattle.schema_semantics.specs.Names.{Among}
use Rattle.step_values.specs.steps.Slots.{nth}
use Rattle.step_values.specs.Values.{Value, Values}
use Rattle.conformance.specs.Bases.{Base, Domain, IsDomain, base}
use Rattle.schema_underlying_types.specs.BaseViews.{type_at, base_seen}
use Rattle.schema_underlying_types.specs.Tables.{NamesKnownType, IsNumberedBase}
use Rattle.schema_redeclarations.specs.declared.uses.AttributeUse.{AttributeUse}
use Rattle.schema_redeclarations.specs.declared.uses.Uses.{Uses}
use Rattle.schema_redeclarations.specs.Uses.{uses_at}
use Rattle.population_rows.specs.declared.form.Form.{Form}
use Rattle.population_rows.specs.declared.form.SlotForm.{SlotForm}
use Rattle.population_forms.specs.steps.Slots.{uses_by}
use Rattle.conformance.specs.Elements.{HasUnique}
use Rattle.population_pins.specs.steps.Holding.{may_hold}
use Rattle.population_pins.specs.declared.slots.UniqueSlot.{UniqueSlot}

-- What is required of the value at a position.
abbrev pub slot_seen : Schema → UniqueSlot → ℕ × Base
slot_seen s x = (x.position, base_seen s x.base)

abbrev pub HaveNumbers : Schema → List UniqueSlot → Type 0
HaveNumbers s xs = Every (λ (x : UniqueSlot). IsNumberedBase s x.base) xs

-- What a data type requires of the value at a position, if the value can be, or can contain, a LIST
-- or ARRAY OF UNIQUE.
abbrev pub slot_by : Domain → ℕ → DataType → List (ℕ × Base)
slot_by d i k = cond (may_hold d (base d k)) ((i, base d k) ∷ []) []

abbrev pub slots_of : Domain → ℕ → List DataType → List (ℕ × Base)
slots_of d i [] = []
slots_of d i (k ∷ ks) = slot_by d i k ++ slots_of d i ks

-- The data types of declarations.
abbrev pub asked : Schema → List AttributeUse → List DataType
asked s us = map (λ (u : AttributeUse). type_at s u.data_type) us

-- The data types of all declarations are known.
abbrev pub AreKnown : Schema → Uses → Type 0
AreKnown s t = (i : ℕ) (u : AttributeUse) → Among u (uses_at t i) → NamesKnownType s (type_at s u.data_type)

-- What the data types of these attributes require of their values, which are at positions from `i`
-- on.
abbrev pub form_slots : Schema → Domain → Uses → List ℕ → ℕ → List SlotForm → List (ℕ × Base)
form_slots s d t types i [] = []
form_slots s d t types i (x ∷ xs) =
    slots_of d i (asked s (uses_by t types x.place)) ++ form_slots s d t types (i + 1) xs

-- `more` is added to what is required.
pub record AddsSlots (s : Schema) (old new : List UniqueSlot) (more : Domain → List (ℕ × Base)) : Type 0 where
  pub says : (d : Domain) → IsDomain s d → map (slot_seen s) new ≡ map (slot_seen s) old ++ more d
  pub numbered : HaveNumbers s old → HaveNumbers s new

-- `row` is what the data types require of the values of a form.
pub record IsUniqueRow (s : Schema) (t : Uses) (x : Form) (row : List UniqueSlot) : Type 0 where
  pub says : (d : Domain) → IsDomain s d → map (slot_seen s) row ≡ form_slots s d t x.types.items 0 x.slots.items
  pub numbered : HaveNumbers s row

-- `row` is what the data types require of the values of a form before position `i`.
pub record IsRowUpTo (s : Schema) (t : Uses) (x : Form) (row : List UniqueSlot) (i : ℕ) : Type 0 where
  pub says : (d : Domain) → IsDomain s d
      → map (slot_seen s) row ++ form_slots s d t x.types.items i (drop i x.slots.items)
      ≡ form_slots s d t x.types.items 0 x.slots.items
  pub numbered : HaveNumbers s row

abbrev pub IsRowOf : Schema → Uses → Form → Vec UniqueSlot → Type 0
IsRowOf s t x row = IsUniqueRow s t x row.items

abbrev pub or_none : Option (Vec UniqueSlot) → List UniqueSlot
or_none None = []
or_none (Some row) = row.items

-- What is required of the values of the form with this number; empty if there is none.
abbrev pub slots_at : List (Vec UniqueSlot) → Option ℕ → List UniqueSlot
slots_at rows None = []
slots_at rows (Some n) = or_none (slice_get rows n)

-- The value at a position is, or contains, a LIST or ARRAY OF UNIQUE, for whose elements `P` holds.
abbrev pub HasUniqueAt : Schema → Domain → (Values → Type 0) → Values → ℕ × Base → Type 0
HasUniqueAt s d P vs (i, b) = (v : Value) × (nth vs i ≡ Some v) × HasUnique s d P b v
