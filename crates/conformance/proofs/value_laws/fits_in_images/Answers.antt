use Rattle.conformance.proofs.Carrying.{fits_carried}
use Rattle.conformance.proofs.value_laws.fits_in_images.Goals as goal

pub returns : goal.returns
returns c = λ s d before after h alike b v w f g e. fits_carried s d before after h alike b v w f g e
