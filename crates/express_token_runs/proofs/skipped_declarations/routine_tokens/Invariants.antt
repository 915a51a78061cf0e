use Rattle.std.proofs.Common.{length}
use Rattle.express_lexer.specs.Reading.{left}
use Rattle.express_token_runs.proofs.SkippedSteps.{RoutineSoFar}
use Rattle.express_token_runs.proofs.skipped_declarations.routine_tokens.Given as goal

abbrev pub invariant-loop-item : goal.invariant-loop-item
invariant-loop-item l = RoutineSoFar l.fn.reader l.reader l.from l.to l.others

abbrev pub decreases-loop-item : goal.decreases-loop-item
decreases-loop-item l = length (left l.reader)
