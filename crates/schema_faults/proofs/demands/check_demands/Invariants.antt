use Rattle.std.proofs.Common.{flat_map, take}
use Rattle.express_syntax.specs.Profile.{Every}
use Rattle.express_syntax.specs.Views.{declaration_of as declaration_seen}
use Rattle.schema_semantics.specs.Faults.{IsMet, demands_of_declaration}
use Rattle.schema_names.specs.Schemas.{the_schema}
use Rattle.schema_faults.proofs.demands.check_demands.Given as goal

abbrev pub invariant-loop-declaration : goal.invariant-loop-declaration
invariant-loop-declaration l =
    Every (IsMet (the_schema l.names))
    (flat_map (λ x. demands_of_declaration (declaration_seen x))
    (take l.declaration-index l.names.schema.now.declarations.items))
