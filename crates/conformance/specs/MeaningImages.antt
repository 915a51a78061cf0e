-- Images of a population under a map of names, as far as expressions distinguish them.
use Rattle.std.specs.Prelude.{◌≡◌, ℕ, List, map, Some}
use Rattle.std.specs.List.{IsDistinct}
use Rattle.express_syntax.specs.Profile.{Every}
use Rattle.schema_semantics.specs.Names.{Among}
use Rattle.schema_semantics.specs.Attributes.{same_place}
use Rattle.conformance.specs.Populations.{Slot, Instance, instance_at}
use Rattle.conformance.specs.Images.{IsLed}
use Rattle.conformance.specs.Rules.{InverseAttribute}
use Rattle.conformance.specs.Referrers.{inverse_value}
use Rattle.conformance.specs.RuleLaws.{IsClosed}
use Rattle.express_logic.specs.Data.{bag}
use Rattle.conformance.specs.Meanings.{instance_data}
use Rattle.conformance.specs.AlikeValues.{AlikeIn}

-- an instance has this name
abbrev pub IsInstanceName : List Instance → ℕ → Type 0
IsInstanceName is y = (x : Instance) × (instance_at is y ≡ Some x)

-- `y` names an instance, and `h` maps it to `z`.
abbrev pub LeadsBy : List Instance → (ℕ → ℕ) → ℕ → ℕ → Type 0
LeadsBy is h y z = IsInstanceName is y × (h y ≡ z)

-- The instance has at most one value for each attribute.
abbrev pub HasPlacesOnce : Instance → Type 0
HasPlacesOnce x = IsDistinct same_place (map (λ (y : Slot). y.place) x.slots)

-- `h` maps each instance of `is` to one of `js` with the same types and the same values, whose
-- references are mapped by `h`. Each reference in `is` names an instance, and no instance has two
-- values for one attribute.
pub record IsLedTo (is js : List Instance) (h : ℕ → ℕ) : Type 0 where
  pub closed : IsClosed is
  pub once : Every HasPlacesOnce is
  pub led : (y : ℕ) (x : Instance) → instance_at is y ≡ Some x
      → (z : Instance) × (instance_at js (h y) ≡ Some z) × IsLed h x z

-- `h` maps the value of each of these inverse attributes at each instance to its value at the image
-- of the instance, in any order.
abbrev pub ReferrersAreLed : List InverseAttribute → List Instance → List Instance → (ℕ → ℕ) → Type 0
ReferrersAreLed inverses is js h =
    (i : InverseAttribute) → Among i inverses → (y : ℕ) → IsInstanceName is y
    → AlikeIn (LeadsBy is h) bag (instance_data (inverse_value is i y)) (instance_data (inverse_value js i (h y)))

-- `h` maps the instances of `is` to those of `js`, and the values of inverse attributes too.
pub record IsKept (inverses : List InverseAttribute) (is js : List Instance) (h : ℕ → ℕ) : Type 0 where
  pub instances_led : IsLedTo is js h
  pub referrers_led : ReferrersAreLed inverses is js h
