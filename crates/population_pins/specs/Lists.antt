-- The instances that are elements of the same LIST or ARRAY OF UNIQUE.
use Rattle.std.specs.Prelude.{◌≡◌, ◌≢◌, ◌↔◌, ℕ, Bool, true, List, [], ◌∷◌, ◌++◌}
use Rattle.express_syntax.specs.Schemas.{Schema}
use Rattle.schema_semantics.specs.Names.{OneOf, Among}
use Rattle.conformance.specs.Bases.{Domain, IsDomain}
use Rattle.conformance.specs.Entities.{Entities, AreEntities}
use Rattle.conformance.specs.Pins.{StandsBesideItsClass}
use Rattle.conformance.specs.Populations.{Instance}
use Rattle.step_values.specs.Values.{Value, reference, Values, none, more}

-- The name of an element that is an instance; empty for other elements.
abbrev pub names_in : Value → List ℕ
names_in (reference y) = y ∷ []
names_in v = []

-- The names of the elements that are instances, in order.
abbrev pub stand_in : Values → List ℕ
stand_in none = []
stand_in (more v vs) = names_in v ++ stand_in vs

-- The lists, and one more if it has two names or more.
abbrev pub with_list : List (List ℕ) → List ℕ → List (List ℕ)
with_list ls [] = ls
with_list ls (y ∷ []) = ls
with_list ls (y ∷ z ∷ l) = ls ++ (y ∷ z ∷ l) ∷ []

-- `y` is in the list, and so is another instance of its class.
abbrev pub StandsBeside : (ℕ → ℕ → Bool) → ℕ → List ℕ → Type 0
StandsBeside E y l = Among y l × (z : ℕ) × Among z l × (z ≢ y) × (E y z ≡ true)

-- For any relation of classes, one of the lists has `y` and another instance of its class exactly
-- if a LIST or ARRAY OF UNIQUE of the population has.
abbrev pub AreUniqueOf : Schema → List Instance → List (List ℕ) → Type 0
AreUniqueOf s is ls = (d : Domain) (en : Entities) → IsDomain s d → AreEntities s en → (E : ℕ → ℕ → Bool) (y : ℕ)
    → OneOf (StandsBeside E y) ls ↔ OneOf (StandsBesideItsClass s d en E y) is
