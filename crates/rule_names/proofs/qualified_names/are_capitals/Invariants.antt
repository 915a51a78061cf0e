use Rattle.std.proofs.Common.{◌≡◌, bytes_eq}
use Rattle.step_literals.specs.Words.{upper}
use Rattle.rule_names.proofs.Letters.{left_same}
use Rattle.rule_names.proofs.qualified_names.are_capitals.Given as goal

-- what is left decides
abbrev pub invariant-loop-index : goal.invariant-loop-index
invariant-loop-index l = left_same l.bytes l.letters l.index ≡ bytes_eq l.bytes (upper l.letters)
