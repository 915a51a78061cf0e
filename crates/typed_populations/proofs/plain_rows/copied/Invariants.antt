use Rattle.std.proofs.Common.{◌≡◌, map, take}
use Rattle.step_values.specs.Views.{word_of}
use Rattle.typed_populations.proofs.plain_rows.copied.Given as goal

abbrev pub invariant-loop-word : goal.invariant-loop-word
invariant-loop-word l = map word_of l.copied.items ≡ map word_of (take l.word-index l.words)
