use Rattle.conformance.proofs.Settings.{images_keep_meanings}
use Rattle.conformance.proofs.meaning_laws.images_keep_meanings.Goals as goal

pub returns : goal.returns
returns c = images_keep_meanings
