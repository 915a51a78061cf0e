use Rattle.parsing.proofs.Levels.{said}
use Rattle.parsing.proofs.column_laws.a_place_says_its_cell.Goals as goal

pub returns : goal.returns
returns g c = said
