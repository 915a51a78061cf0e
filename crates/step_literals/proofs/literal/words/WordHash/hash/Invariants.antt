use Rattle.std.proofs.Common.{◌≡◌, take, fold}
use Rattle.std.specs.List.{flat_map}
use Rattle.std.specs.Hash as fed
use Rattle.step_literals.specs.Words.{upper}
use Rattle.step_literals.proofs.literal.words.WordHash.hash.Given as goal

abbrev pub invariant-loop-byte : goal.invariant-loop-byte
invariant-loop-byte g l = l.state ≡ fold g.H.Hasher.write l.initial.state
    (flat_map fed.u8 (upper (take l.byte-index l.byte-items)))
