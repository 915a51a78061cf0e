-- The formulas of derived attributes, by number (ISO 10303-11, 9.2.1.2).
use Rattle.std.specs.Prelude.{◌≡◌, ℕ, ◌+◌, List, Option, Some, cond, length, get_or, slice_get, option_map, nat_lt}
use Rattle.express_syntax.specs.ExpressionViews.{tree_of}
use Rattle.express_syntax.specs.Schemas.{Schema}
use Rattle.schema_semantics.specs.Attributes.{Derivation}
use Rattle.conformance.specs.Attributes as meanings
use Rattle.conformance.specs.Attributes.{IsFormula}
use Rattle.schema_attributes.specs.Derivations.{all_derivations, HasDerivation}
use Rattle.schema_derived_attributes.specs.declared.formula.Formula.{Formula}
use Rattle.schema_derived_attributes.specs.declared.formula.Formulas.{Formulas}
use Rattle.schema_derived_attributes.specs.Firsts.{AreFirsts}

abbrev pub formula_seen : Formula → meanings.Formula
formula_seen f = record { rank = f.rank; expression = tree_of f.expression.now }

-- By number, the formulas of derived attributes; `None` for those that are set aside.
pub record AreFormulas (s : Schema) (table : List (Option Formula)) : Type 0 where
  pub same : length table ≡ length (all_derivations s)
  pub each : (j : ℕ) (d : Derivation) (o : Option Formula) → HasDerivation s j d → slice_get table j ≡ Some o
      → IsFormula s d (option_map formula_seen o)

-- The table has the formulas of the schema's derived attributes, and by declaration the count of
-- those before it.
pub record AreFormulasOf (s : Schema) (t : Formulas) : Type 0 where
  pub rows : AreFormulas s t.rows.items
  pub firsts : AreFirsts s t.firsts.items

-- The number of the derived attribute at index n of the entity i, where `firsts` has the numbers of
-- the first derived attributes of declarations; `count` if the entity has none at n.
abbrev pub formula_place : List ℕ → ℕ → ℕ → ℕ → ℕ
formula_place firsts count i n =
    cond (nat_lt (get_or firsts i count + n) (get_or firsts (i + 1) count)) (get_or firsts i count + n) count
