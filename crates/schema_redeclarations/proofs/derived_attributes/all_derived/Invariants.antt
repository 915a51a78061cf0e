use Rattle.std.proofs.Common.{map, take}
use Rattle.std.specs.List.{AllZip}
use Rattle.graphs.specs.Graphs.{graph_of}
use Rattle.express_syntax.specs.Views.{declaration_of}
use Rattle.schema_names.specs.Schemas.{the_schema}
use Rattle.schema_redeclarations.specs.steps.Speaking.{AreDerivedIn}
use Rattle.schema_redeclarations.proofs.derived_attributes.all_derived.Given as goal

abbrev pub invariant-loop-declaration : goal.invariant-loop-declaration
invariant-loop-declaration l =
    AllZip (AreDerivedIn (the_schema l.sources.names.now))
    (take l.declaration-index (map declaration_of l.declaration-items)) (graph_of l.rows.items)
