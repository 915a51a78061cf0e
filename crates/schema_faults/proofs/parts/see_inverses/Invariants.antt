use Rattle.std.proofs.Common.{flat_map, take}
use Rattle.schema_faults.specs.steps.Repeated.{Sees}
use Rattle.schema_faults.specs.steps.Parts.{inverse_in}
use Rattle.schema_faults.proofs.parts.see_inverses.Given as goal

abbrev pub invariant-loop-inverse : goal.invariant-loop-inverse
invariant-loop-inverse l = Sees l.fn.seen l.seen (flat_map (inverse_in l.scope) (take l.inverse-index l.inverses))
