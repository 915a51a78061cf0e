use Rattle.std.proofs.Common.{◌≡◌, ◌≤◌, take, drop}
use Rattle.std.specs.List.{prefix_len}
use Rattle.std.specs.Str.Parse.{digits_value}
use Rattle.step_literals.specs.Bytes.{is_hex}
use Rattle.step_literals.specs.Strings.{clean}
use Rattle.step_literals.proofs.characters.number_at.Given as goal

abbrev pub invariant-loop : goal.invariant-loop
invariant-loop l = record {
  digits : l.counter ≤ prefix_len is_hex (clean l.bytes);
  number : l.value ≡ digits_value 16 (take l.counter (clean l.bytes));
  left : clean l.rest ≡ drop l.counter (clean l.bytes);
}
