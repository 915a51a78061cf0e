use Rattle.std.proofs.Common.{length}
use Rattle.step_lexer.specs.Reading.{left}
use Rattle.step_records.specs.steps.Readers.{reading}
use Rattle.step_exchange.specs.steps.Keeping.{KeepsSoFar}
use Rattle.step_exchange.proofs.header.header.Given as goal

abbrev pub invariant-loop : goal.invariant-loop
invariant-loop l = KeepsSoFar l.fn.reader l.place l.reader

abbrev pub decreases-loop : goal.decreases-loop
decreases-loop l = length (left (reading l.reader))
