use Rattle.std.proofs.Common.{flat_map, take}
use Rattle.schema_faults.specs.steps.Repeated.{Sees}
use Rattle.schema_faults.specs.steps.Parts.{derived_in}
use Rattle.schema_faults.proofs.parts.see_derived.Given as goal

abbrev pub invariant-loop-derived : goal.invariant-loop-derived
invariant-loop-derived l = Sees l.fn.seen l.seen (flat_map (derived_in l.scope) (take l.derived-index l.deriveds))
