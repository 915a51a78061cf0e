use Rattle.std.proofs.Common.{◌≡◌, take}
use Rattle.value_equality.specs.steps.ComputedHeads.{numbered_heads}
use Rattle.value_equality.proofs.parts.heads_of.Given as goal

abbrev pub invariant-loop-i : goal.invariant-loop-i
invariant-loop-i l = l.heads.items ≡ numbered_heads 0 (take l.i l.rows)
