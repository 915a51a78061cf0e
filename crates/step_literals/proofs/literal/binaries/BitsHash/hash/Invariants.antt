use Rattle.std.proofs.Common.{◌≡◌, ◌++◌, fold}
use Rattle.std.specs.List.{flat_map}
use Rattle.std.specs.Hash as fed
use Rattle.step_literals.specs.steps.BitsLeft.{bits_left}
use Rattle.step_literals.specs.Values.{bits_value}
use Rattle.step_literals.proofs.literal.binaries.BitsHash.hash.Given as goal

abbrev pub invariant-loop-bit : goal.invariant-loop-bit
invariant-loop-bit g l =
    (l.state ≡ fold g.H.Hasher.write l.initial.state (flat_map fed.bool l.yielded))
    × (l.yielded ++ bits_left l.bit-iterator ≡ bits_value l.self)
