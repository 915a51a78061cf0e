use Rattle.std.proofs.Common.{length}
use Rattle.step_lexer.specs.Reading.{left}
use Rattle.step_records.specs.steps.Readers.{reading}
use Rattle.step_exchange.proofs.DataKeeping.{DataSoFar}
use Rattle.step_exchange.proofs.data.each_section.Given as goal

abbrev pub invariant-loop-token : goal.invariant-loop-token
invariant-loop-token l = DataSoFar l.fn.reader l.sections.items l.names l.reader

abbrev pub decreases-loop-token : goal.decreases-loop-token
decreases-loop-token l = length (left (reading l.reader))
