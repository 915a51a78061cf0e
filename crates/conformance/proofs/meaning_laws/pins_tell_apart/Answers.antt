use Rattle.conformance.proofs.PinnedSides.{pins_tell_apart}
use Rattle.conformance.proofs.meaning_laws.pins_tell_apart.Goals as goal

pub returns : goal.returns
returns c = pins_tell_apart
