use Rattle.express_logic.proofs.Deciding.{equal_same}
use Rattle.express_logic.proofs.laws.equal_values_are_the_same.Goals as goal

pub returns : goal.returns
returns c = equal_same
