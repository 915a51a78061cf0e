-- Ranks above those of derived attributes.
use Rattle.std.specs.Prelude.{ℕ, suc, ◌≤◌, List, Option, Some, None}
use Rattle.express_syntax.specs.Profile.{Every}
use Rattle.schema_derived_attributes.specs.declared.formula.Formula.{Formula}
use Rattle.schema_derived_attributes.specs.declared.formula.Formulas.{Formulas}

-- one more than the rank of the formula, if any
abbrev pub above_rank : Option Formula → ℕ
above_rank None = 0
above_rank (Some f) = suc f.rank

-- all formulas have ranks below n
abbrev pub AreRanksBelow : List (Option Formula) → ℕ → Type 0
AreRanksBelow rows n = Every (λ o. above_rank o ≤ n) rows

-- all derived attributes of a schema have ranks below n
abbrev pub IsLimit : Formulas → ℕ → Type 0
IsLimit formulas n = AreRanksBelow formulas.rows.items n
