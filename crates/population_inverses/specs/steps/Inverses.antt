-- The inverse attributes of instances, by number.
use Rattle.std.specs.Prelude.{ℕ, suc, cond, List, [], ◌∷◌, Option, None, Some, slice_get}
use Rattle.graphs.specs.Graphs.{has}
use Rattle.schema_underlying_types.specs.BaseViews.{or_empty}
use Rattle.population_rows.specs.declared.form.Form.{Form}
use Rattle.schema_constraints.specs.declared.inverses.InverseAttribute.{InverseAttribute}

-- the numbers, counted from n, of the inverse attributes that instances of a form have
abbrev pub numbers_by : List InverseAttribute → ℕ → Form → List ℕ
numbers_by [] n x = []
numbers_by (i ∷ inverses) n x =
    cond (has x.types.items i.entity) (n ∷ numbers_by inverses (suc n) x) (numbers_by inverses (suc n) x)

-- the row of the form with this number; empty if there is none
abbrev pub row_by : List (List ℕ) → Option ℕ → List ℕ
row_by rows None = []
row_by rows (Some n) = or_empty (slice_get rows n)
