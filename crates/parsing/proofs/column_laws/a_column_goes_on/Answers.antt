use Rattle.parsing.proofs.Grown.{goes_on}
use Rattle.parsing.proofs.column_laws.a_column_goes_on.Goals as goal

pub returns : goal.returns
returns g c = goes_on
