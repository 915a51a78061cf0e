use Rattle.std.proofs.Common.{◌≡◌}
use Rattle.express_logic.specs.steps.Left.{characters_left}
use Rattle.express_logic.proofs.Taken.{falls_short}
use Rattle.express_logic.proofs.strings.takes_name.Goals as goal

pub returns-then-not-takes_code : goal.returns-then-not-takes_code
returns-then-not-takes_code c =
    let bytes = c.spelling-byte-items.result.now in
    let spelled : bytes ≡ c.args.name.text.now = λ i. (c.spelling-byte-items.ensures i).now in
    falls_short (characters_left c.args.characters.now) (characters_left c.loop-byte.characters)
    (characters_left c.takes_code.new.characters) bytes c.args.name.text.now c.loop-byte.byte-index
    c.to_ascii_uppercase.result c.loop-byte-test.true c.to_ascii_uppercase.ensures.value spelled c.loop-byte.invariant
    c.takes_code.result c.takes_code.ensures c.if-not-takes_code.true
