use Rattle.conformance.proofs.Linking.{fits_none}
use Rattle.conformance.proofs.Returning.{fits_back}
use Rattle.conformance.proofs.Spelling.{spelt_none}
use Rattle.conformance.proofs.value_laws.no_finding_exactly_where_it_fits.Goals as goal

pub returns : goal.returns
returns c = λ s d target typing told known b x. (
  λ m. (spelt_none s d target b x m, fits_none s d target typing (λ y types e. (told y types).0 e) known b x m),
  λ h. fits_back s d target typing (λ y types e. (told y types).1 e) b x h.0 h.1,
)
