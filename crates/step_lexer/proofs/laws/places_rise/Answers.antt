use Rattle.step_lexer.proofs.Determined.{places_rise}
use Rattle.step_lexer.proofs.laws.places_rise.Goals as goal

pub returns : goal.returns
returns c = places_rise
