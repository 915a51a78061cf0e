-- What a reference refers to, as the code represents it.
use Rattle.std.specs.Prelude.{ℕ, List, map}
use Rattle.express_syntax.specs.Schemas.{Schema}
use Rattle.express_syntax.specs.Profile.{Every}
use Rattle.schema_names.specs.Numbers.{HasNumber}
use Rattle.schema_underlying_types.specs.BaseViews.{name_at}
use Rattle.conformance.specs.ParameterFits as fitting
use Rattle.parameter_fits.specs.declared.targets.Target.{Target}
use Rattle.parameter_fits.specs.declared.targets.Target.TheVariants.{Absent, Unknown, OfTypes}

abbrev pub target_seen : Schema → Target → fitting.Target
target_seen s Absent = fitting.absent
target_seen s Unknown = fitting.unknown
target_seen s (OfTypes types) = fitting.of_types (map (name_at s) types.now)

-- each number is that of the declaration with the name at it
abbrev pub AreNumbered : Schema → List ℕ → Type 0
AreNumbered s row = Every (λ i. HasNumber s (name_at s i) i) row

abbrev pub IsLed : Schema → Target → Type 0
IsLed s (OfTypes types) = AreNumbered s types.now
IsLed s _ = Unit {0}
