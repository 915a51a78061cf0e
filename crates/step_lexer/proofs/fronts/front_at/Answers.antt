use Rattle.step_lexer.proofs.FrontLemmas.{mark_front}
use Rattle.step_lexer.proofs.fronts.front_at.Goals as goal

pub returns-in-Some : goal.returns-in-Some
returns-in-Some c = mark_front c.args.bytes.now c.in-Some.mark c.requires c.in-Some.ensures.some
