use Rattle.std.proofs.Common.{◌-◌, length}
use Rattle.step_records.specs.steps.Names.{AreFirst}
use Rattle.step_records.proofs.names.look_up.Given as goal

abbrev pub invariant-loop-looked_up : goal.invariant-loop-looked_up
invariant-loop-looked_up l = AreFirst l.set.keys l.looked_up l.list

abbrev pub decreases-loop-looked_up : goal.decreases-loop-looked_up
decreases-loop-looked_up l = length l.list - l.looked_up
