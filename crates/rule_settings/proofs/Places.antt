-- The place of an explicit attribute by its number.
use Rattle.std.specs.Prelude.{◌≡◌, ℕ, ◌<◌, length}
use Rattle.std.proofs.Common.{sym, ap, ◌∙◌}
use Rattle.express_syntax.specs.Schemas.{Schema}
use Rattle.schema_explicit_attributes.specs.Places.{all_places}
use Rattle.schema_constraints.specs.RuleViews.{or_nowhere, place_at}
use Rattle.typed_populations.specs.Rows as population
use Rattle.rule_settings.proofs.Explicits.{there}

pub one_place : (s : Schema) (q : ℕ) → q < length (all_places s) → population.place_at s q ≡ place_at s q
one_place s q lt = let (p, at) = there s q lt in ap population.or_nowhere at ∙ sym (ap or_nowhere at)
