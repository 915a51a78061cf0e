-- What the code computes; nothing is promised here. The positions of the parts of keys among the values of instances.
use Rattle.std.specs.Prelude.{ℕ, cond, List, [], ◌∷◌, Option, Some, None, slice_get, Vec}
use Rattle.graphs.specs.Graphs.{has}
use Rattle.population_rows.specs.declared.form.SlotForm.{SlotForm}
use Rattle.population_rows.specs.declared.form.Form.{Form}
use Rattle.schema_constraints.specs.declared.uniques.UniqueRule.{UniqueRule}
use Rattle.typed_populations.specs.ValueOrder.{position_among}

abbrev pub numbers_in : {Z : Type 0} → Option (Vec ℕ Z) → Option (List ℕ)
numbers_in None = None
numbers_in (Some v) = Some v.items

abbrev pub with_position : Option ℕ → Option (List ℕ) → Option (List ℕ)
with_position None is = None
with_position (Some i) None = None
with_position (Some i) (Some is) = Some (i ∷ is)

-- the positions of the explicit attributes numbered qs, if all are among xs
abbrev pub positions_of : List SlotForm → List ℕ → Option (List ℕ)
positions_of xs [] = Some []
positions_of xs (q ∷ qs) = with_position (position_among xs q) (positions_of xs qs)

-- the positions of the attributes of a rule, in a form that has its entity
abbrev pub positions_by : UniqueRule → Form → Option (List ℕ)
positions_by u x = cond (has x.types.items u.entity) (positions_of x.slots.items u.places.items) None

abbrev pub if_there : {Z : Type 0} → Option (Option (Vec ℕ Z)) → Option (Vec ℕ Z)
if_there None = None
if_there (Some o) = o

-- the positions for the form with this number
abbrev pub positions_among : {Z : Type 0} → List (Option (Vec ℕ Z)) → Option ℕ → Option (Vec ℕ Z)
positions_among all None = None
positions_among all (Some n) = if_there (slice_get all n)
