-- The instances of a file that keep their identity.
use Rattle.std.specs.Prelude.{ℕ, Bool, IsTrue, List, ◌↔◌}
use Rattle.value_equality.specs.Rows.{Row}
use Rattle.value_equality.specs.ValueEquality.{IsValueEquality}
use Rattle.express_syntax.specs.Schemas.{Schema}
use Rattle.conformance.specs.Choices.{MergeOptions}
use Rattle.conformance.specs.Populations.{Instance}
use Rattle.conformance.specs.Pins.{IsWeaklyPinned, IsGentlyPinned}
use Rattle.conformance.specs.SchemaMeanings.{Said}

-- The instances that keep their identity if instances of the chosen entities are merged: those that
-- the gentle rules pin, with the classes of value equality under the weak pins.
pub record ArePins (s : Schema) (said : Said s) (chosen : MergeOptions) (is : List Instance) (P : List Row)
    (pinned : ℕ → Bool) : Type 0 where
  pub weak : ℕ → Bool
  pub are_weak : (y : ℕ) → IsTrue (weak y) ↔ IsWeaklyPinned s said.domain said.entities said.rules chosen is y
  pub classes : ℕ → ℕ → Bool
  pub are_classes : IsValueEquality P weak classes
  pub are_gentle : (y : ℕ) → IsTrue (pinned y)
      ↔ IsGentlyPinned s said.domain said.entities said.rules chosen is classes y
