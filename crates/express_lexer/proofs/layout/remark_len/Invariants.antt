use Rattle.std.proofs.Common.{◌+◌, ◌≤◌, length}
use Rattle.express_lexer.proofs.Remarks.{Counts}
use Rattle.express_lexer.proofs.layout.remark_len.Given as goal

-- the remark ends where what is open is closed
abbrev pub invariant-loop-open : goal.invariant-loop-open
invariant-loop-open l = Counts l.bytes l.open l.rest × (l.open + length l.rest ≤ length l.bytes)

abbrev pub decreases-loop-open : goal.decreases-loop-open
decreases-loop-open l = length l.rest
