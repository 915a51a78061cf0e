-- The form of the instance of a row.
use Rattle.std.specs.Prelude.{ℕ, List, Option, None, Some, slice_get}
use Rattle.population_rows.specs.declared.form.Form.{Form}
use Rattle.population_rows.specs.declared.rows.Rows.{Rows}

-- the form of a row
abbrev pub form_of_number : List Form → Option (Option ℕ) → Option Form
form_of_number all None = None
form_of_number all (Some None) = None
form_of_number all (Some (Some n)) = slice_get all n

abbrev pub form_at : Rows → ℕ → Option Form
form_at t row = form_of_number t.forms.items (slice_get t.form_of.items row)
