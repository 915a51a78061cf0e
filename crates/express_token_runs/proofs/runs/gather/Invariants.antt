use Rattle.std.proofs.Common.{length}
use Rattle.express_lexer.specs.Reading.{left}
use Rattle.express_token_runs.specs.steps.Items.{located_of}
use Rattle.express_token_runs.specs.steps.OpenRuns.{part_of}
use Rattle.express_token_runs.proofs.RunSteps.{SoFar}
use Rattle.express_token_runs.proofs.runs.gather.Given as goal

abbrev pub invariant-loop-lexer : goal.invariant-loop-lexer
invariant-loop-lexer l = SoFar (part_of l.part) l.around l.fn.buffer (located_of l.first) l.fn.lexer l.buffer
    (located_of l.item) l.lexer

abbrev pub decreases-loop-lexer : goal.decreases-loop-lexer
decreases-loop-lexer l = length (left l.lexer)
