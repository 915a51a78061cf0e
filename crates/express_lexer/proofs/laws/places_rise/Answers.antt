use Rattle.express_lexer.proofs.Determined.{places_rise}
use Rattle.express_lexer.proofs.laws.places_rise.Goals as goal

pub returns : goal.returns
returns c = places_rise
