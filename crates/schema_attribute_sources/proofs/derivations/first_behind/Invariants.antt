use Rattle.std.proofs.Common.{◌≡◌, drop}
use Rattle.std.specs.List.{position_from}
use Rattle.graphs.specs.Graphs.{graph_of}
use Rattle.express_syntax.specs.ExpressionViews.{capitals}
use Rattle.express_syntax.specs.declared.tree.Derived.{Derived}
use Rattle.express_syntax.specs.Views.{derived_of, declaration_of}
use Rattle.schema_names.specs.Schemas.{the_schema}
use Rattle.schema_attribute_sources.specs.steps.Deriving.{deriveds_in, gives, first_behind}
use Rattle.schema_attribute_sources.proofs.derivations.first_behind.Given as goal

-- what is left decides
abbrev pub invariant-loop-n : goal.invariant-loop-n
invariant-loop-n l =
    position_from (λ (d : Derived). gives (the_schema l.names) (graph_of l.lines) (capitals l.asked.name)
    l.asked.entity l.entity (derived_of d).attribute) l.n (drop l.n l.deriveds)
    ≡ first_behind (the_schema l.names) (graph_of l.lines) (capitals l.asked.name) l.asked.entity l.entity
    (deriveds_in (declaration_of l.declaration))
