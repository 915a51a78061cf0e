use Rattle.std.proofs.Common.{flat_map, take}
use Rattle.express_syntax.specs.Profile.{Every}
use Rattle.express_syntax.specs.Views.{derived_of, names_of}
use Rattle.schema_semantics.specs.Faults.{IsMet, demands_of_derived}
use Rattle.schema_names.specs.Schemas.{the_schema}
use Rattle.schema_faults.proofs.entities.check_deriveds.Given as goal

abbrev pub invariant-loop-derived : goal.invariant-loop-derived
invariant-loop-derived l =
    Every (IsMet (the_schema l.names)) (flat_map (λ x. demands_of_derived (names_of l.supertypes) (derived_of x))
    (take l.derived-index l.deriveds))
