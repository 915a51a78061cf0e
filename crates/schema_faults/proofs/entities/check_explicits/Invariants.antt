use Rattle.std.proofs.Common.{flat_map, take}
use Rattle.express_syntax.specs.Profile.{Every}
use Rattle.express_syntax.specs.Views.{explicit_of, names_of}
use Rattle.schema_semantics.specs.Faults.{IsMet, demands_of_explicit}
use Rattle.schema_names.specs.Schemas.{the_schema}
use Rattle.schema_faults.proofs.entities.check_explicits.Given as goal

abbrev pub invariant-loop-explicit : goal.invariant-loop-explicit
invariant-loop-explicit l =
    Every (IsMet (the_schema l.names)) (flat_map (λ x. demands_of_explicit (names_of l.supertypes) (explicit_of x))
    (take l.explicit-index l.explicits))
