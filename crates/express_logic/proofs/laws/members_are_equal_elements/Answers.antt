use Rattle.express_logic.proofs.Deciding.{members_equal}
use Rattle.express_logic.proofs.laws.members_are_equal_elements.Goals as goal

pub returns : goal.returns
returns c = members_equal
