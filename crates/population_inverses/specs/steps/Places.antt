-- The number of the inverse attribute with a place, which is an entity and the name under which it declares the
-- attribute.
use Rattle.std.specs.Prelude.{ℕ, suc, cond, List, [], ◌∷◌, Option, None, Some}
use Rattle.schema_semantics.specs.Attributes.{Place, same_place}
use Rattle.conformance.specs.Rules.{InverseAttribute}

abbrev pub place_of_inverse : InverseAttribute → Place
place_of_inverse i = (i.entity, i.name)

-- the number, counted from k, of the inverse attribute with the place p, if any
abbrev pub number_from : ℕ → List InverseAttribute → Place → Option ℕ
number_from k [] p = None
number_from k (i ∷ inverses) p = cond (same_place (place_of_inverse i) p) (Some k) (number_from (suc k) inverses p)
