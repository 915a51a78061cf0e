use Rattle.conformance.proofs.Leading.{images_conform}
use Rattle.conformance.proofs.value_laws.images_conform.Goals as goal

pub returns : goal.returns
returns c = λ s d en h is js image conforms. images_conform s d en h is js image conforms
