use Rattle.std.proofs.Common.{flat_map, take}
use Rattle.express_syntax.specs.Profile.{Every}
use Rattle.schema_semantics.specs.Faults.{IsMet, a_type}
use Rattle.schema_names.specs.Schemas.{the_schema}
use Rattle.schema_faults.proofs.Unmet.{asked_each}
use Rattle.schema_faults.proofs.names.check_types.Given as goal

abbrev pub invariant-loop-word : goal.invariant-loop-word
invariant-loop-word l =
    Every (IsMet (the_schema l.names)) (flat_map (asked_each a_type) (take l.word-index l.words))
