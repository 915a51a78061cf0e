use Rattle.step_structures.proofs.Unmerged.{unmerged_text_stays}
use Rattle.step_structures.proofs.merged_text_laws.unmerged_text_stays.Goals as goal

pub returns : goal.returns
returns c = unmerged_text_stays
