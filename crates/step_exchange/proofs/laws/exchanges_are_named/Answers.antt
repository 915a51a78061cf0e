use Rattle.step_exchange.proofs.Named.{exchanges-are-named}
use Rattle.step_exchange.proofs.laws.exchanges_are_named.Goals as goal

pub returns : goal.returns
returns c = exchanges-are-named
