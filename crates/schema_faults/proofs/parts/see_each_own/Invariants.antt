use Rattle.std.proofs.Common.{flat_map, take}
use Rattle.schema_faults.specs.steps.Repeated.{Sees}
use Rattle.schema_faults.specs.steps.Parts.{own_in}
use Rattle.schema_faults.proofs.parts.see_each_own.Given as goal

abbrev pub invariant-loop-attribute : goal.invariant-loop-attribute
invariant-loop-attribute l = Sees l.fn.seen l.seen (flat_map (own_in l.scope) (take l.attribute-index l.attributes))
