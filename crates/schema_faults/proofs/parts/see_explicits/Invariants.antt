use Rattle.std.proofs.Common.{flat_map, take}
use Rattle.schema_faults.specs.steps.Repeated.{Sees}
use Rattle.schema_faults.specs.steps.Parts.{explicit_in}
use Rattle.schema_faults.proofs.parts.see_explicits.Given as goal

abbrev pub invariant-loop-explicit : goal.invariant-loop-explicit
invariant-loop-explicit l = Sees l.fn.seen l.seen (flat_map (explicit_in l.scope) (take l.explicit-index l.explicits))
