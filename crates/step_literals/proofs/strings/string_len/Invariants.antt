use Rattle.std.proofs.Common.{◌≡◌, ℕ, ◌+◌, List, ◌∷◌, ◌++◌, length}
use Rattle.step_literals.specs.Tokens.{doubled}
use Rattle.step_literals.proofs.strings.string_len.Given as goal

-- what is passed is an apostrophe and content, doubled
abbrev pub invariant-loop-at : goal.invariant-loop-at
invariant-loop-at l = (content : List ℕ) × (l.bytes ≡ 39 ∷ (doubled content ++ l.rest))
    × (l.len ≡ 1 + length (doubled content))

abbrev pub decreases-loop-at : goal.decreases-loop-at
decreases-loop-at l = length l.rest
