use Rattle.std.proofs.Common.{true, take}
use Rattle.step_literals.specs.Words.{upper}
use Rattle.express_logic.specs.steps.Left.{characters_left}
use Rattle.express_logic.specs.steps.Taking.{Takes}
use Rattle.express_logic.proofs.strings.takes_name.Given as goal

-- the letters that were taken
abbrev pub invariant-loop-byte : goal.invariant-loop-byte
invariant-loop-byte l =
    Takes (upper (take l.byte-index l.byte-items)) (characters_left l.fn.characters) (characters_left l.characters) true
