use Rattle.std.proofs.Common.{◌≡◌, map, flat_map, take, filter_map}
use Rattle.graphs.specs.Graphs.{graph_of}
use Rattle.express_syntax.specs.Views.{declaration_of as declaration_seen}
use Rattle.schema_names.specs.Numbers.{number_of}
use Rattle.schema_names.specs.Schemas.{the_schema}
use Rattle.population_forms.specs.steps.Knowing.{one_ofs_in}
use Rattle.population_forms.proofs.operands.one_ofs.Given as goal

abbrev pub invariant-loop-declaration : goal.invariant-loop-declaration
invariant-loop-declaration l =
    graph_of l.rows.items
    ≡ map (filter_map (number_of (the_schema l.names)))
    (flat_map one_ofs_in (map declaration_seen (take l.declaration-index l.declaration-items)))
