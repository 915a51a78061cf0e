-- The instances on the sides of inverse attributes, by the values of these attributes.
use Rattle.std.specs.Prelude.{◌≡◌, ℕ, List, slice_get, ◌⊎◌}
use Rattle.express_syntax.specs.Schemas.{Schema}
use Rattle.schema_semantics.specs.Names.{OneOf}
use Rattle.conformance.specs.Populations.{Instance}
use Rattle.schema_constraints.specs.declared.inverses.InverseAttribute.{InverseAttribute}
use Rattle.population_inverses.specs.Extents.{inverse_value_by}

-- `y` is on a side of an inverse attribute: the attribute holds it, or it is the instance and the
-- attribute holds something.
abbrev pub IsOnSide : ℕ → List ℕ → ℕ → Type 0
IsOnSide name held y = OneOf (λ z. (z ≡ y) ⊎ (y ≡ name)) held

-- `y` is on a side of one of the inverse attributes with these numbers.
abbrev pub IsOnSideOf : Schema → List Instance → List InverseAttribute → ℕ → List ℕ → ℕ → Type 0
IsOnSideOf s is inverses name numbers y =
    OneOf (λ n. IsOnSide name (inverse_value_by s (slice_get inverses n) is name) y) numbers
