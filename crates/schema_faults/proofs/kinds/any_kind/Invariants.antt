use Rattle.std.proofs.Common.{◌≡◌, drop}
use Rattle.std.specs.List.{list_any}
use Rattle.graphs.specs.Graphs.{graph_of}
use Rattle.express_syntax.specs.Views.{names_of}
use Rattle.schema_names.specs.Schemas.{the_schema}
use Rattle.schema_faults.specs.steps.Kinds.{is_kind}
use Rattle.schema_faults.proofs.kinds.any_kind.Given as goal

-- what is left decides
abbrev pub invariant-loop-lower : goal.invariant-loop-lower
invariant-loop-lower l =
    list_any (is_kind (the_schema l.names) (graph_of l.above) l.upper) (names_of (drop l.lower-index l.lowers))
    ≡ list_any (is_kind (the_schema l.names) (graph_of l.above) l.upper) (names_of l.lowers)
