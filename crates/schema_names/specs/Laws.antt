-- Laws of numbers, and of the graphs on numbers, for every schema.
use Rattle.std.specs.Prelude.{ℕ, ◌↔◌}
use Rattle.graphs.specs.Graphs.{Graph, Reaches, Leads, IsGraph}
use Rattle.express_syntax.specs.Schemas.{Schema, named}
use Rattle.schema_semantics.specs.Names.{Name, IsBelow, IsMadeOf}
use Rattle.schema_names.specs.Numbers.{HasNumber, NumbersStand}
use Rattle.schema_names.specs.Edges.{IsGraphOf, supertypes_in, parts_in}

-- The number of a name is that of the declaration that the name refers to, and of no other name.
abbrev pub NumbersAreNames : Type 0
NumbersAreNames = (s : Schema) → NumbersStand s

-- The names whose numbers are reachable along SUBTYPE OF are the proper supertypes, and each
-- reachable number is that of a name.
abbrev pub ReachedAreSupertypes : Type 0
ReachedAreSupertypes =
    (s : Schema) (g : Graph) → IsGraphOf s supertypes_in g → (m : Name) (i : ℕ) → HasNumber s m i
    → ((n : Name) (j : ℕ) → HasNumber s n j → Reaches g i j ↔ IsBelow s m n)
    × ((j : ℕ) → Reaches g i j → (n : Name) × HasNumber s n j)

-- The names whose numbers are reachable along parts are those of which a defined type is made, and
-- each reachable number is that of a name.
abbrev pub ReachedAreParts : Type 0
ReachedAreParts =
    (s : Schema) (g : Graph) → IsGraphOf s parts_in g → (m : Name) (i : ℕ) → HasNumber s m i
    → ((n : Name) (j : ℕ) → HasNumber s n j → Reaches g i j ↔ Leads (IsMadeOf s) (named m) (named n))
    × ((j : ℕ) → Reaches g i j → (n : Name) × HasNumber s n j)

-- The edges end at declarations, so closures, orders and cycles of these graphs are defined.
abbrev pub EdgesLeadWithin : Type 0
EdgesLeadWithin =
    (s : Schema) (g : Graph) → (IsGraphOf s supertypes_in g → IsGraph g) × (IsGraphOf s parts_in g → IsGraph g)
