use Rattle.express_syntax.specs.steps.PassageLemmas.{stands_within}
use Rattle.express_syntax.proofs.StandLemmas.{passage_words}
use Rattle.express_syntax.proofs.passage.Passage.between.Goals as goal

pub invariant_of-result : goal.invariant_of-result
invariant_of-result c =
    let h = stands_within c.args.text.now c.args.from c.requires.0 c.args.to c.requires.1 in
    record { order = h.0; within = h.1; words = (c.requires.0, ∣ c.requires.1 ∣₁) }

pub returns-clause-words : goal.returns-clause-words
returns-clause-words c = λ ws h. passage_words record {
  text = c.args.text;
  from = c.args.from;
  to = c.args.to;
  order = c.result-1.given.0;
  within = c.result-1.given.1.0;
  words = c.result-1.given.1.1.0;
} ws h
