use Rattle.std.proofs.Common.{length}
use Rattle.express_syntax.specs.Words.{words_of}
use Rattle.express_syntax.specs.Views.{names_of}
use Rattle.express_parts.proofs.BoundSteps.{NamesSoFar}
use Rattle.express_parts.proofs.bounds.known_names.Given as goal

abbrev pub invariant-loop-left : goal.invariant-loop-left
invariant-loop-left l = NamesSoFar (words_of l.lexemes) (names_of l.names.items) (words_of l.left)

abbrev pub decreases-loop-left : goal.decreases-loop-left
decreases-loop-left l = length l.left
