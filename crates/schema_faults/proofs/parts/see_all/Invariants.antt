use Rattle.std.proofs.Common.{map, take}
use Rattle.express_syntax.specs.Views.{declaration_of as declaration_seen}
use Rattle.schema_semantics.specs.Faults.{declared_from}
use Rattle.schema_faults.specs.steps.Repeated.{Sees}
use Rattle.schema_faults.proofs.parts.see_all.Given as goal

abbrev pub invariant-loop-i : goal.invariant-loop-i
invariant-loop-i l = Sees l.fn.seen l.seen (declared_from 1 (map declaration_seen (take l.i l.declarations)))
