use Rattle.std.proofs.Common.{◌≡◌, map, string_bytes, take}
use Rattle.command_line.proofs.merge_words.owned.Given as goal

abbrev pub invariant-loop-text : goal.invariant-loop-text
invariant-loop-text l = map string_bytes l.owned.items ≡ map (λ text. text.now) (take l.text-index l.texts)
