-- Violated bounds of inverse attributes, by the numbers of the attributes.
use Rattle.std.specs.Prelude.{ℕ, not, Bool, cond, List, [], ◌∷◌, length, flat_map, Option, None, Some, slice_get}
use Rattle.express_syntax.specs.ExpressionViews.{capitals}
use Rattle.express_syntax.specs.Schemas.{Schema}
use Rattle.schema_underlying_types.specs.BaseViews.{name_at}
use Rattle.conformance.specs.Populations.{Instance}
use Rattle.conformance.specs.RuleFindings.{Breach, may_hold}
use Rattle.conformance.specs.Referrers.{inverse_value}
use Rattle.schema_constraints.specs.declared.inverses.InverseAttribute.{InverseAttribute}
use Rattle.schema_constraints.specs.RuleViews.{gathering_seen, inverse_seen}

-- the breach of an instance y that violates the bounds of an inverse attribute
abbrev pub breach : Schema → ℕ → InverseAttribute → Breach
breach s y i = record { instance = y; holder = name_at s i.entity; label = capitals i.name }

module _ (s : Schema) (is : List Instance) (y : ℕ) where
  -- the number of instances that an inverse attribute holds for y is within bounds
  abbrev pub keeps : InverseAttribute → Bool
  keeps i = may_hold (gathering_seen i.gathering) (length (inverse_value is (inverse_seen s i) y))

  -- the breach of the bounds of an inverse attribute, if there is one
  abbrev pub breach_in : Option InverseAttribute → List Breach
  breach_in None = []
  breach_in (Some i) = cond (not (keeps i)) (breach s y i ∷ []) []

  -- the breaches of the bounds of the inverse attributes with these numbers
  abbrev pub breaches_at : List InverseAttribute → List ℕ → List Breach
  breaches_at inverses numbers = flat_map (λ n. breach_in (slice_get inverses n)) numbers
