-- The references that an inverse attribute inverts, collected from instances.
use Rattle.std.specs.Prelude.{◌≡◌, ℕ, cond, List, flat_map, Option, None, Some, slice_get}
use Rattle.graphs.specs.Graphs.{has}
use Rattle.express_syntax.specs.Schemas.{Schema}
use Rattle.conformance.specs.Populations.{Instance}
use Rattle.population_rows.specs.declared.form.Form.{Form}
use Rattle.conformance.specs.Referrers.{held}
use Rattle.graphs.specs.declared.referrers.Reference.{Reference}
use Rattle.graphs.specs.Referrers.{referrers_of}
use Rattle.schema_constraints.specs.declared.inverses.InverseAttribute.{InverseAttribute}
use Rattle.schema_constraints.specs.RuleViews.{inverse_seen}
use Rattle.typed_populations.specs.ValueOrder.{position_among}

-- the position of the inverted attribute in a form; None if the entity that refers isn't a type of the form
abbrev pub position_by : InverseAttribute → Form → Option ℕ
position_by i x = cond (has x.types.items i.referrer) (position_among x.slots.items i.inverted) None

abbrev pub or_nowhere : Option (Option ℕ) → Option ℕ
or_nowhere None = None
or_nowhere (Some o) = o

-- the position of the inverted attribute in the form with this number, if any
abbrev pub position_at : List (Option ℕ) → Option ℕ → Option ℕ
position_at positions None = None
position_at positions (Some n) = or_nowhere (slice_get positions n)

-- The references are those that an inverse attribute holds. For each target they have the instances that refer to it,
-- in the order of the instances, each as often as it is held.
abbrev pub AreHeld : Schema → InverseAttribute → List Instance → List Reference → Type 0
AreHeld s i is references = (y : ℕ) → referrers_of y references ≡ flat_map (held (inverse_seen s i) y) is
