use Rattle.express_logic.proofs.Spelt.{literals_say_content}
use Rattle.express_logic.proofs.laws.literals_say_their_content.Goals as goal

pub returns : goal.returns
returns c = literals_say_content
