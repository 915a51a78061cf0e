use Rattle.std.proofs.Common.{◌-◌, ◌≡◌, ◌≤◌, length, take}
use Rattle.std.specs.List.{prefix_len}
use Rattle.std.specs.Str.Parse.{digits_value}
use Rattle.step_literals.specs.Bytes.{is_digit}
use Rattle.step_lexer.proofs.digits.small_number.Given as goal

abbrev pub invariant-loop-value : goal.invariant-loop-value
invariant-loop-value l = (l.len ≤ prefix_len is_digit l.bytes) × (l.value ≡ digits_value 10 (take l.len l.bytes))

abbrev pub decreases-loop-value : goal.decreases-loop-value
decreases-loop-value l = length l.bytes - l.len
