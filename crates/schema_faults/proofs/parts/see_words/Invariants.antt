use Rattle.std.proofs.Common.{flat_map, take}
use Rattle.schema_faults.specs.steps.Repeated.{Sees}
use Rattle.schema_faults.specs.steps.Parts.{word_in}
use Rattle.schema_faults.proofs.parts.see_words.Given as goal

abbrev pub invariant-loop-word : goal.invariant-loop-word
invariant-loop-word l = Sees l.fn.seen l.seen (flat_map (word_in l.scope) (take l.word-index l.words))
