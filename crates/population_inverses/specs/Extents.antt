-- The values of inverse attributes, by the numbers of the attributes.
use Rattle.std.specs.Prelude.{ℕ, List, [], Option, None, Some}
use Rattle.std.specs.List.{AllZip}
use Rattle.express_syntax.specs.Schemas.{Schema}
use Rattle.conformance.specs.Populations.{Instance}
use Rattle.conformance.specs.Referrers.{inverse_value}
use Rattle.graphs.specs.declared.referrers.Reference.{Reference}
use Rattle.schema_constraints.specs.declared.inverses.InverseAttribute.{InverseAttribute}
use Rattle.schema_constraints.specs.RuleViews.{inverse_seen}
use Rattle.population_inverses.specs.InverseReferences.{AreHeld}

-- for each inverse attribute, the references that it holds
abbrev pub AllHeld : Schema → List Instance → List InverseAttribute → List (List Reference) → Type 0
AllHeld s is inverses references = AllZip (λ i r. AreHeld s i is r) inverses references

-- the value of an inverse attribute, if there is one, otherwise empty
abbrev pub inverse_value_by : Schema → Option InverseAttribute → List Instance → ℕ → List ℕ
inverse_value_by s None is y = []
inverse_value_by s (Some i) is y = inverse_value is (inverse_seen s i) y
