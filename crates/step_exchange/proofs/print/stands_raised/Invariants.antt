use Rattle.std.proofs.Common.{◌≡◌, ◌<◌, take}
use Rattle.step_literals.specs.Words.{upper}
use Rattle.step_exchange.proofs.print.stands_raised.Given as goal

abbrev pub invariant-loop-byte : goal.invariant-loop-byte
invariant-loop-byte l = l.most < 97 → upper (take l.byte-index l.word) ≡ take l.byte-index l.word
