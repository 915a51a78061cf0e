use Rattle.std.proofs.Common.{◌≡◌, ◌+◌, ◌≤◌, length}
use Rattle.std.specs.List.{prefix_len}
use Rattle.step_literals.specs.Bytes.{is_hex}
use Rattle.step_literals.specs.Strings.{clean}
use Rattle.step_literals.proofs.clean.hex_count.Given as goal

abbrev pub invariant-loop-first : goal.invariant-loop-first
invariant-loop-first l = (l.len + prefix_len is_hex (clean l.rest) ≡ prefix_len is_hex (clean l.bytes))
    × (l.len + length (clean l.rest) ≤ length (clean l.bytes))

abbrev pub decreases-loop-first : goal.decreases-loop-first
decreases-loop-first l = length (clean l.rest)
