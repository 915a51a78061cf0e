-- Images of a population under a map of names.
use Rattle.std.specs.Prelude.{◌≡◌, ℕ, ◌==◌, List, map, Some}
use Rattle.step_values.specs.Values.{Agree}
use Rattle.step_values.specs.References.{renamed}
use Rattle.express_syntax.specs.Schemas.{Schema, DataType}
use Rattle.express_syntax.specs.Profile.{Every}
use Rattle.schema_semantics.specs.Names.{Name, Among}
use Rattle.conformance.specs.Bases.{Domain, base}
use Rattle.conformance.specs.Entities.{Entities, data_types}
use Rattle.conformance.specs.Populations.{Slot, Instance}
use Rattle.conformance.specs.SeparatingMaps.{KeepsApart}
use Rattle.conformance.specs.Conforming.{typing_of}

-- `j` has the types of `i`, and the same attributes in any order. Each value of `j` agrees with
-- that of `i`, with references mapped by `h`.
pub record IsLed (h : ℕ → ℕ) (i j : Instance) : Type 0 where
  pub types : i.types ≡ j.types
  pub places : (x : Slot) → Among x i.slots → Among x.place (map (λ (y : Slot). y.place) j.slots)
  pub values : (y : Slot) → Among y j.slots
      → (x : Slot) × Among x i.slots × (x.place ≡ y.place) × Agree (◌==◌) (renamed h x.value) y.value

module _ (s : Schema) (d : Domain) (en : Entities) (h : ℕ → ℕ) where
  -- `h` keeps the elements of a value apart, by each data type that the value has to fit.
  abbrev pub KeepsSlotApart : List Name → Slot → Type 0
  KeepsSlotApart types x = Every (λ (k : DataType). KeepsApart s d h (base d k) x.value) (data_types s en types x.place)

  -- `h` keeps the elements of each value of the instance apart.
  abbrev pub KeepsInstanceApart : Instance → Type 0
  KeepsInstanceApart i = Every (KeepsSlotApart i.types) i.slots

  -- `js` is an image of `is` under `h`. Each instance of `js` is the image of one of `is`, whose
  -- elements `h` keeps apart. `h` maps each name in `is` to an instance of `js` with the same
  -- types.
  pub record IsTypedImage (is js : List Instance) : Type 0 where
    pub led : (j : Instance) → Among j js
        → (i : Instance) × Among i is × IsLed h i j × KeepsInstanceApart i
    pub types : (y : ℕ) (types : List Name) → typing_of is y ≡ Some types → typing_of js (h y) ≡ Some types
