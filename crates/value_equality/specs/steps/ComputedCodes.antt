-- How the logic distinguishes rows; no promise stands here. Each list of rows has a code, and equal
-- codes are those of equal rows.
use Rattle.std.specs.Prelude.{ℕ, List, refl}
use Rattle.std.specs.Coded.{Coded, coded×, coded_ℕ, coded_list, code_by}
use Rattle.step_values.specs.Values.{Values}
use Rattle.step_values.specs.steps.ComputedCodes.{bytes, coded_values}
use Rattle.value_equality.specs.Rows.{Row}

abbrev pub coded_rows : Coded (List Row)
coded_rows =
    coded_list (code_by (ℕ × (ℕ × (List (List ℕ) × Values)))
    (coded× coded_ℕ (coded× coded_ℕ (coded× (coded_list bytes) coded_values)))
    (λ r. (r.name, (r.section, (r.types, r.values))))
    (λ p. record { name = p.0; section = p.1.0; types = p.1.1.0; values = p.1.1.1 }) (λ _. refl))
