-- How the weak pins are collected, for one LIST or ARRAY OF UNIQUE after the other.
use Rattle.std.specs.Prelude.{IsTrue, ◌⊎◌, ◌↔◌}
use Rattle.schema_semantics.specs.Names.{OneOf}
use Rattle.population_pins.specs.steps.Elements.{Question, inside, beside}
use Rattle.population_pins.specs.Lists.{StandsBeside}
use Rattle.population_pins.specs.steps.Pinning.{has_name}
use Rattle.population_pins.specs.declared.weak_pin_lists.Gathered.{Gathered}

-- The collected pins and lists answer the question: the instance is pinned, or one of the lists has
-- it and another of its class.
abbrev pub Tells : Gathered → Question → Type 0
Tells w (inside y) = IsTrue (has_name w.names y)
Tells w (beside E y) = OneOf (StandsBeside E y) w.lists

-- The questions that `new` answers are those that `old` answers, and those for which `P` holds.
abbrev pub Gathers : (Question → Type 0) → Gathered → Gathered → Type 0
Gathers P old new = (q : Question) → Tells new q ↔ (Tells old q ⊎ P q)

-- The questions that `new` answers or that are left are those that `old` answers, and those for
-- which `P` holds.
abbrev pub GathersUpTo : (Question → Type 0) → (Question → Type 0) → Gathered → Gathered → Type 0
GathersUpTo P left old new = (q : Question) → (Tells new q ⊎ left q) ↔ (Tells old q ⊎ P q)
