use Rattle.express_lexer.proofs.MarkLemmas.{NoneBefore}
use Rattle.express_lexer.proofs.marks.mark_of.Given as goal

abbrev pub invariant-loop-mark : goal.invariant-loop-mark
invariant-loop-mark l = NoneBefore l.bytes l.mark-index
