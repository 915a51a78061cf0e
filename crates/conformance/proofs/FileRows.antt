-- The rows of a file, and of any population that conforms.
use Rattle.conformance.specs.Populations.{population_of}
use Rattle.conformance.specs.RowLaws.{RowsOfConformingArePopulations, RowsOfFilesArePopulations}
use Rattle.conformance.proofs.Populations.{population_conforms}
use Rattle.conformance.proofs.Closed.{conforming_are_closed}
use Rattle.conformance.proofs.Rowed.{are_population}
use Rattle.conformance.proofs.FileNames.{files_name_instances}

pub rows_of_conforming_are_populations : RowsOfConformingArePopulations
rows_of_conforming_are_populations s d en are is P once conforms of =
    are_population s is P of once (conforming_are_closed s d en are is conforms)

pub rows_of_files_are_populations : RowsOfFilesArePopulations
rows_of_files_are_populations s d en are others f P fits nothing of =
    rows_of_conforming_are_populations s d en are.entities (population_of s d en f) P
    ((files_name_instances s d en f).1 fits) (population_conforms s d en are f others nothing) of
