-- The values by which literals and words are compared.
use Rattle.std.specs.Prelude.{ℕ, Bool, List}
use Rattle.step_literals.specs.declared.literal.Word.{Word}
use Rattle.step_literals.specs.declared.literal.Bits.{Bits}
use Rattle.step_literals.specs.Words.{upper}
use Rattle.step_literals.specs.Bits.{bits_of}

abbrev pub word_value : Word → List ℕ
word_value w = upper w.text.now

abbrev pub bits_value : Bits → List Bool
bits_value b = bits_of b.text.now
