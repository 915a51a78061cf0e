use Rattle.std.proofs.Common.{flat_map, take}
use Rattle.express_syntax.specs.Profile.{Every}
use Rattle.express_syntax.specs.Views.{inverse_of}
use Rattle.schema_semantics.specs.Faults.{IsMet}
use Rattle.schema_names.specs.Schemas.{the_schema}
use Rattle.schema_faults.specs.steps.Clauses.{demands_of_own_inverse}
use Rattle.schema_faults.proofs.inverses.check_inverses.Given as goal

abbrev pub invariant-loop-inverse : goal.invariant-loop-inverse
invariant-loop-inverse l =
    Every (IsMet (the_schema l.names))
    (flat_map (λ x. demands_of_own_inverse (inverse_of x))
    (take l.inverse-index l.inverses))
