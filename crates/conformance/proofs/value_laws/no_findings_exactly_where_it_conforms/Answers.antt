use Rattle.conformance.proofs.Populations.{population_conforms}
use Rattle.conformance.proofs.Records.{no_findings}
use Rattle.conformance.proofs.Written.{names_schema, rows_spelt}
use Rattle.conformance.proofs.value_laws.no_findings_exactly_where_it_conforms.Goals as goal

pub returns : goal.returns
returns c = λ s d en are others f. (
  λ e. (names_schema s d en others f e, rows_spelt s d en others f e, population_conforms s d en are f others e),
  λ h. no_findings s d en are others f h.0 h.1 h.2,
)
