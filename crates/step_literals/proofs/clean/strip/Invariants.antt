use Rattle.std.proofs.Common.{◌≡◌, ◌++◌, take}
use Rattle.step_literals.specs.Strings.{clean}
use Rattle.step_literals.specs.steps.Directives.{Skips}
use Rattle.step_literals.proofs.clean.strip.Given as goal

-- what is passed of the text is passed of the bytes
abbrev pub invariant-loop-byte : goal.invariant-loop-byte
invariant-loop-byte l = Skips l.byte-index l.bytes l.rest × (clean l.bytes ≡ take l.byte-index l.text ++ clean l.rest)
