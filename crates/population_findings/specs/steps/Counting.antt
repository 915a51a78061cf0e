-- Records whose number of parameters isn't that of their attributes.
use Rattle.std.specs.Prelude.{ℕ, ◌+◌, ◌==◌, Bool, false, cond, List, [], ◌∷◌, Option, None, Some}
use Rattle.step_structures.specs.Trees.{Record}
use Rattle.conformance.specs.ParameterFits.{count}

-- whether the record has the required number of parameters, if that number is known
abbrev pub has_as_many : Record → Option ℕ → Bool
has_as_many r None = false
has_as_many r (Some n) = count r.values == n

abbrev pub miscounts : List ℕ → List Record → ℕ
miscounts ns [] = 0
miscounts [] (r ∷ rs) = 1 + miscounts [] rs
miscounts (n ∷ ns) (r ∷ rs) = cond (has_as_many r (Some n)) 0 1 + miscounts ns rs
