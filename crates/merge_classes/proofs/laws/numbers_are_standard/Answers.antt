use Rattle.merge_classes.proofs.Standard.{numbers_are_standard}
use Rattle.merge_classes.proofs.laws.numbers_are_standard.Goals as goal

pub returns : goal.returns
returns c = numbers_are_standard
