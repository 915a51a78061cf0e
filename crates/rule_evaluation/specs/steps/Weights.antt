-- How much is left to evaluate for derived attributes below a rank; nothing is promised here.
use Rattle.std.specs.Prelude.{ℕ, suc, ◌+◌, List, [], ◌∷◌, Option, Some, None, nat_lt, if◌then◌else◌}
use Rattle.express_syntax.specs.declared.expression.Expr.{size-Expr}
use Rattle.schema_derived_attributes.specs.declared.formula.Formula.{Formula}

abbrev pub weight_at : Option Formula → ℕ → ℕ
weight_at None r = 0
weight_at (Some f) r = if nat_lt f.rank r then suc (size-Expr f.expression.now) else 0

abbrev pub weight : List (Option Formula) → ℕ → ℕ
weight [] r = 0
weight (f ∷ fs) r = weight_at f r + weight fs r
