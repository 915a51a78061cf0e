use Rattle.shrinking.proofs.Told.{files_are_one}
use Rattle.shrinking.proofs.laws.files_are_one.Goals as goal

pub returns : goal.returns
returns c = files_are_one c.answers_are_one.ensures
