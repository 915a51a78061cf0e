use Rattle.std.proofs.Common.{◌≡◌, map, take, filter_map}
use Rattle.express_syntax.specs.Schemas.{Declaration}
use Rattle.express_syntax.specs.Views.{declaration_of as declaration_seen}
use Rattle.graphs.specs.Graphs.{graph_of}
use Rattle.schema_names.specs.Numbers.{number_of}
use Rattle.schema_names.specs.steps.Relations.{named_in}
use Rattle.schema_names.specs.Schemas.{the_schema}
use Rattle.schema_names.proofs.declaration_graphs.graph.Given as goal

abbrev pub invariant-loop-declaration : goal.invariant-loop-declaration
invariant-loop-declaration l =
    graph_of l.rows.items
    ≡ map (λ (d : Declaration). filter_map (number_of (the_schema l.names)) (named_in l.relation d))
    (map declaration_seen (take l.declaration-index l.declaration-items))
