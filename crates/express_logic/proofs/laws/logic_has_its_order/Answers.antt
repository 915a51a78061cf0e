use Rattle.express_logic.proofs.Deciding.{logic_order}
use Rattle.express_logic.proofs.laws.logic_has_its_order.Goals as goal

pub returns : goal.returns
returns c = logic_order
