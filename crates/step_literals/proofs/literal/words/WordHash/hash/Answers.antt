use Rattle.std.proofs.lemmas.List.{take_all}
use Rattle.std.specs.List.{flat_map}
use Rattle.std.specs.Hash as fed
use Rattle.std.specs.Hash.{fed_then}
use Rattle.step_literals.specs.Words.{upper}
use Rattle.step_literals.proofs.literal.words.WordHash.hash.Goals as goal

pub returns : goal.returns
returns g c =
    let text = c.args.self.now.text.now in
    let whole = rw (take_all c.loop-byte.byte-index text c.loop-byte-test.false) at c.loop-byte.invariant in
    fed_then g.H.Hasher.write c.args.state.now c.loop-byte.state c.write_u8-2.new.self (flat_map fed.u8 (upper text))
    (fed.u8 255) whole c.write_u8-2.ensures
