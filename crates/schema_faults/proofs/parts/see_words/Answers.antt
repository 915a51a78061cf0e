use Rattle.std.proofs.Common.{flat_map}
use Rattle.schema_faults.specs.steps.Parts.{word_in}
use Rattle.schema_faults.proofs.Declaring.{sees-item, sees-whole}
use Rattle.schema_faults.proofs.parts.see_words.Goals as goal

pub loop-word-preserved : goal.loop-word-preserved
loop-word-preserved c =
    sees-item (word_in c.args.scope) c.args.words.now c.loop-word.word-index c.args.seen.now c.loop-word.seen
    c.see.new.seen c.word-item.result c.loop-word-test.true c.word-item.is c.loop-word.invariant c.in_ok-see.ensures

pub returns : goal.returns
returns c =
    sees-whole (flat_map (word_in c.args.scope)) c.args.words.now c.loop-word.word-index c.args.seen.now
    c.loop-word.seen c.loop-word-test.false c.loop-word.invariant
