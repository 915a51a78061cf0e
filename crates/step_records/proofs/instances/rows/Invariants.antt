use Rattle.std.proofs.Common.{length}
use Rattle.step_lexer.specs.Reading.{left}
use Rattle.step_records.specs.steps.Readers.{reading}
use Rattle.step_records.proofs.Instancing.{InstancesSoFar}
use Rattle.step_records.proofs.instances.rows.Given as goal

abbrev pub invariant-loop-token : goal.invariant-loop-token
invariant-loop-token l = InstancesSoFar l.fn.names l.fn.reader l.names l.reader

abbrev pub decreases-loop-token : goal.decreases-loop-token
decreases-loop-token l = length (left (reading l.reader))
