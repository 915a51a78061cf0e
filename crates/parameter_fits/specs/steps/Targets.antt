-- What references refer to, by number.
use Rattle.std.specs.Prelude.{ℕ, Option, None, Some, map, slice_get}
use Rattle.express_syntax.specs.Schemas.{Schema}
use Rattle.express_syntax.specs.Profile.{Every}
use Rattle.schema_names.specs.Numbers.{HasNumber}
use Rattle.graphs.specs.Graphs.{graph_of}
use Rattle.population_rows.specs.Index.{found}
use Rattle.schema_underlying_types.specs.BaseViews.{name_at, or_empty}
use Rattle.conformance.specs.ParameterFits.{Target, absent, unknown, of_types}
use Rattle.parameter_fits.specs.declared.targets.Targets.{Targets}

module _ (s : Schema) (t : Targets) where
  -- an instance of this form
  abbrev pub of_form : Option ℕ → Target
  of_form None = unknown
  of_form (Some f) = of_types (map (name_at s) (or_empty (slice_get (graph_of t.types.now) f)))

  -- the instance of a row; if the row doesn't exist, it counts as an instance with an unknown entity
  abbrev pub of_row : Option (Option ℕ) → Target
  of_row None = unknown
  of_row (Some f) = of_form f

  abbrev pub of_found : Option ℕ → Target
  of_found None = absent
  of_found (Some r) = of_row (slice_get t.forms.now r)

  abbrev pub target_of : ℕ → Target
  target_of y = of_found (found t.index.now y)

  -- each type is the number of a declaration with the name at it
  abbrev pub AreTargets : Type 0
  AreTargets = Every (λ row. Every (λ i. HasNumber s (name_at s i) i) row) (graph_of t.types.now)
