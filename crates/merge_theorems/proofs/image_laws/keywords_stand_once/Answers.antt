use Rattle.merge_theorems.proofs.Keywords.{keywords_stand_once}
use Rattle.merge_theorems.proofs.image_laws.keywords_stand_once.Goals as goal

pub returns : goal.returns
returns c = keywords_stand_once
