use Rattle.express_lexer.proofs.MeaningLemmas.{character_goes, raw_goes}
use Rattle.express_lexer.proofs.literal.characters.Characters.inner.Goals as goal

pub returns-in-Some : goal.returns-in-Some
returns-in-Some c = let s = c.args.self.now in
    character_goes s.run.now c.in-Some.after.now s.raw.now s.rest.now _ _ c.in-Some.ensures c.from.ensures

pub returns : goal.returns
returns c = let s = c.args.self.now in
    raw_goes s.run.now s.raw.now c.in_ok-first.raw.now s.rest.now _ c.in_default.ensures c.in_ok-first.ensures.cases.0
