use Rattle.std.proofs.Common.{◌≤◌, length}
use Rattle.express_lexer.proofs.LayoutLemmas.{Continues}
use Rattle.express_lexer.proofs.layout.layout_len.Given as goal

abbrev pub invariant-loop-n : goal.invariant-loop-n
invariant-loop-n l = Continues l.bytes l.rest × (length l.rest ≤ length l.bytes)

abbrev pub decreases-loop-n : goal.decreases-loop-n
decreases-loop-n l = length l.rest
