use Rattle.express_logic.proofs.Deciding.{lesser_below}
use Rattle.express_logic.proofs.laws.lesser_values_are_below.Goals as goal

pub returns : goal.returns
returns c = lesser_below
