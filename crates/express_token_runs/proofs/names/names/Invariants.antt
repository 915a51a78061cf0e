use Rattle.std.proofs.Common.{length}
use Rattle.express_lexer.specs.Reading.{left}
use Rattle.express_syntax.specs.Views.{names_of}
use Rattle.express_token_runs.proofs.NameSteps.{NamesSoFar}
use Rattle.express_token_runs.proofs.names.names.Given as goal

abbrev pub invariant-loop-names : goal.invariant-loop-names
invariant-loop-names l = NamesSoFar (names_of l.names.items) l.fn.reader l.reader

abbrev pub decreases-loop-names : goal.decreases-loop-names
decreases-loop-names l = length (left l.reader)
