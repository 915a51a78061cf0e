use Rattle.step_structures.proofs.NormalLemmas.{normal_stays}
use Rattle.step_structures.proofs.laws.normal_text_stays.Goals as goal

pub returns : goal.returns
returns c = normal_stays
