use Rattle.std.proofs.Common.{◌≡◌, fold, length}
use Rattle.step_literals.specs.ItemKeys.{content_writes}
use Rattle.step_literals.proofs.literal.texts.feed_plain.Given as goal

-- what is left to feed leads to the same
abbrev pub invariant-loop-byte : goal.invariant-loop-byte
invariant-loop-byte g l = fold g.H.Hasher.write l.state (content_writes l.left) ≡ fold g.H.Hasher.write
    l.initial.state (content_writes l.content)

abbrev pub decreases-loop-byte : goal.decreases-loop-byte
decreases-loop-byte g l = length l.left
