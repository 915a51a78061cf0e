use Rattle.std.proofs.Common.{◌≡◌, length, take, drop}
use Rattle.step_literals.specs.Strings.{clean}
use Rattle.step_literals.proofs.characters.window_of.Given as goal

abbrev pub invariant-loop-len : goal.invariant-loop-len
invariant-loop-len l = record {
  size : length l.window ≡ 4;
  same : take l.len l.window ≡ take l.len (clean l.bytes);
  left : clean l.rest ≡ drop l.len (clean l.bytes);
}
