use Rattle.std.proofs.Common.{◌∙◌, ap}
use Rattle.step_literals.specs.Decimals.{units}
use Rattle.express_logic.proofs.Ordered.{least_spelt, least_worth}
use Rattle.express_logic.proofs.numbers.least_count.Goals as goal

pub from_number-requires : goal.from_number-requires
from_number-requires c = least_spelt

pub returns : goal.returns
returns c = ap units c.from_number.ensures ∙ least_worth
