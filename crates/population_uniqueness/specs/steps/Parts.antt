-- What the code computes; nothing is promised here. The parts of a key, by their positions among values.
use Rattle.std.specs.Prelude.{ℕ, List, [], ◌∷◌, Option, Some, None}
use Rattle.step_values.specs.steps.Slots.{nth}
use Rattle.step_values.specs.Values.{Values, none}
use Rattle.conformance.specs.RuleFindings.{given, with_part}

-- the values at these positions, if all are given
abbrev pub parts_at : Values → List ℕ → Option Values
parts_at vs [] = Some none
parts_at vs (i ∷ is) = with_part (given (nth vs i)) (parts_at vs is)

abbrev pub parts_by : Values → Option (List ℕ) → Option Values
parts_by vs None = None
parts_by vs (Some is) = parts_at vs is
