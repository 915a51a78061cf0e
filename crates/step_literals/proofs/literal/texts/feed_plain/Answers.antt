use Rattle.std.proofs.Common.{◌∙◌, sym}
use Rattle.step_literals.proofs.PlainBytes.{plain_fed}
use Rattle.step_literals.proofs.literal.texts.feed_plain.Goals as goal

pub loop-byte-preserved : goal.loop-byte-preserved
loop-byte-preserved g c = plain_fed g.H.Hasher.write c.loop-byte.state c.write_u8.new.self _ _ c.loop-byte.left.now _ (sym c.is_plain.ensures ∙ c.if-not-is_plain.false) c.in-Some.ensures.cases.0 c.write_u8.ensures c.loop-byte.invariant
