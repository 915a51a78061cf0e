-- The references between instances, and the values of inverse attributes (ISO 10303-11, 9.2.1.3).
use Rattle.std.specs.Prelude.{ℕ, ◌+◌, ◌==◌, min, cond, List, [], ◌∷◌, flat_map, Option, Some, None}
use Rattle.std.specs.List.{repeat}
use Rattle.step_values.specs.Values.{Value, leaf, reference, typed, sequence, bag, Values, none, more}
use Rattle.schema_semantics.specs.Attributes.{Place, same_place}
use Rattle.conformance.specs.ParameterFits.{is_listed}
use Rattle.conformance.specs.Populations.{Instance, slot_at, types_at}
use Rattle.conformance.specs.Rules.{Gathering, alone, in_set, in_bag, InverseAttribute}

-- The number of references to `y` in a value, at any depth.
abbrev mutual
  pub times : ℕ → Value → ℕ
  times y (leaf a) = 0
  times y (reference z) = cond (y == z) 1 0
  times y (typed n v) = times y v
  times y (sequence vs) = times_in y vs
  times y (bag vs) = times_in y vs

  pub times_in : ℕ → Values → ℕ
  times_in y none = 0
  times_in y (more v vs) = times y v + times_in y vs

abbrev pub times_at : ℕ → Option Value → ℕ
times_at y None = 0
times_at y (Some v) = times y v

-- The number of references to `y` in the value of an attribute of `x`.
abbrev pub references : Instance → Place → ℕ → ℕ
references x p y = times_at y (slot_at x.slots p)

-- The number of times that an inverse attribute holds an instance with `n` references: in a BAG `n`
-- times, otherwise at most once.
abbrev pub holds : Gathering → ℕ → ℕ
holds alone n = min n 1
holds (in_set lower upper) n = min n 1
holds (in_bag lower upper) n = n

-- The name of `x`, as often as the inverse attribute of `y` holds it.
abbrev pub held : InverseAttribute → ℕ → Instance → List ℕ
held i y x =
    cond (is_listed i.referrer x.types) (repeat (holds i.gathering (references x i.inverted y)) (x.name ∷ [])) []

-- The value of the inverse attribute of `y`: the instances that refer to `y`, in the order of the
-- file. It is empty if `y` isn't an instance of the entity that declares the attribute, or of a
-- subtype.
abbrev pub inverse_value : List Instance → InverseAttribute → ℕ → List ℕ
inverse_value is i y = cond (is_listed i.entity (types_at is y)) (flat_map (held i y) is) []

-- The value of the inverse attribute of `y` that an entity declares with a name; empty if there is
-- no such attribute.
abbrev pub inverse_of : List InverseAttribute → List Instance → ℕ → Place → List ℕ
inverse_of [] is y p = []
inverse_of (i ∷ rest) is y p = cond (same_place (i.entity, i.name) p) (inverse_value is i y) (inverse_of rest is y p)
