-- Making the formulas, one after the other.
use Rattle.std.specs.Prelude.{◌≡◌, ℕ, ◌+◌, List, [], ◌∷◌, ◌++◌, Option, None, Some, map, length, get_or, option_map}
use Rattle.express_syntax.specs.Schemas.{Derived, Body, parsed, set_aside}
use Rattle.conformance.specs.Attributes as meanings
use Rattle.schema_derived_attributes.specs.declared.formula.Formula.{Formula}
use Rattle.schema_derived_attributes.specs.Formulas.{formula_seen}

-- The formula with a rank and a body; `None` without a rank or an expression.
abbrev pub formula_by : Option ℕ → Body → Option meanings.Formula
formula_by None b = None
formula_by (Some r) (parsed x) = Some (record { rank = r; expression = x })
formula_by (Some r) (set_aside u) = None

-- The formulas of derived attributes that have the numbers from n on.
abbrev pub formulas_from : List (Option ℕ) → ℕ → List Derived → List (Option meanings.Formula)
formulas_from ranks n [] = []
formulas_from ranks n (d ∷ ds) = formula_by (get_or ranks n None) d.body ∷ formulas_from ranks (n + 1) ds

abbrev pub formulas_seen : List (Option Formula) → List (Option meanings.Formula)
formulas_seen table = map (option_map formula_seen) table

-- The table is extended by the formulas of the derived attributes, which have the next numbers.
abbrev pub Adds : List (Option ℕ) → List Derived → List (Option Formula) → List (Option Formula) → Type 0
Adds ranks ds old new = formulas_seen new ≡ formulas_seen old ++ formulas_from ranks (length old) ds
