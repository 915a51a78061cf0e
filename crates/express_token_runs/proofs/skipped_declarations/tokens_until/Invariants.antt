use Rattle.std.proofs.Common.{length}
use Rattle.express_lexer.specs.Reading.{left}
use Rattle.express_token_runs.proofs.SkippedSteps.{UntilSoFar}
use Rattle.express_token_runs.proofs.skipped_declarations.tokens_until.Given as goal

abbrev pub invariant-loop-item : goal.invariant-loop-item
invariant-loop-item l = UntilSoFar l.end l.fn.reader l.reader l.from l.to

abbrev pub decreases-loop-item : goal.decreases-loop-item
decreases-loop-item l = length (left l.reader)
