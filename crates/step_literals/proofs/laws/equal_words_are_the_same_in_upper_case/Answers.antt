use Rattle.std.specs.Cmp.Lexicographic.{bytes_decides}
use Rattle.step_literals.specs.Values.{word_value}
use Rattle.step_literals.proofs.laws.equal_words_are_the_same_in_upper_case.Goals as goal

pub returns : goal.returns
returns c = λ v w. bytes_decides (word_value v) (word_value w)
