use Rattle.std.proofs.Common.{◌≡◌, List, ℕ, ◌++◌, length}
use Rattle.std.specs.List.{AllByRecursion}
use Rattle.step_lexer.specs.Layout.{IsBlank, joined}
use Rattle.step_lexer.proofs.layout.layout_len.Given as goal

abbrev pub invariant-loop-n : goal.invariant-loop-n
invariant-loop-n l = (blanks : List (List ℕ)) × AllByRecursion IsBlank blanks × (l.bytes ≡ joined blanks ++ l.rest)
    × (l.len ≡ length (joined blanks))

abbrev pub decreases-loop-n : goal.decreases-loop-n
decreases-loop-n l = length l.rest
