-- How many instances sections count is a proposition.
use Rattle.std.specs.Prelude.{ℕ, List, [], ◌∷◌}
use Rattle.std.proofs.Math.Bridge.{le_prop}
use Rattle.std.proofs.Math.Nat.{ℕ_set}
use Rattle.step_exchange.specs.declared.section.Section.{Section}
use Rattle.step_exchange.specs.Sections.{CountsTo}

pub counts-prop : (from : ℕ) (ss : List Section) (n : ℕ) → IsProp (CountsTo from ss n)
counts-prop from [] n = ℕ_set from n
counts-prop from (s ∷ ss) n = pair (counts-prop s.past ss n)
  where
    pair : IsProp (CountsTo s.past ss n) → IsProp (CountsTo from (s ∷ ss) n)
    pair h = hlevel (le_prop, h)
