-- The name of the first declaration on a cycle of a graph.
use Rattle.std.specs.Prelude.{◌≡◌, ℕ, Option, None, Some, ◌⊎◌}
use Rattle.graphs.specs.Graphs.{Graph}
use Rattle.graphs.specs.Closures.{IsFirstCyclic}
use Rattle.step_literals.specs.declared.literal.Word.{Word}
use Rattle.express_syntax.specs.ExpressionViews.{capitals}
use Rattle.express_syntax.specs.Schemas.{Schema, Declaration}
use Rattle.express_syntax.specs.Views.{if_some}
use Rattle.schema_semantics.specs.Names.{declared_name}
use Rattle.schema_names.specs.Numbers.{IsAt}

-- The name of the declaration at the first vertex on a cycle, or `None` without a cycle.
abbrev pub IsFirstNamed : Schema → Graph → Option Word → Type 0
IsFirstNamed s g o =
    ((o ≡ None) × IsFirstCyclic g None)
    ⊎ ((i : ℕ) × IsFirstCyclic g (Some i) × ((d : Declaration) → IsAt s i d → if_some capitals o ≡ declared_name d))
