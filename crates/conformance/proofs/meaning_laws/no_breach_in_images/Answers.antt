use Rattle.conformance.proofs.Outcomes.{no_breach_in_images}
use Rattle.conformance.proofs.meaning_laws.no_breach_in_images.Goals as goal

pub returns : goal.returns
returns c = no_breach_in_images
