use Rattle.schema_names.proofs.Numbers.{numbers-stand}
use Rattle.schema_names.proofs.laws.numbers_are_names.Goals as goal

pub returns : goal.returns
returns c = numbers-stand
