use Rattle.std.proofs.Common.{◌≡◌, length, map, drop}
use Rattle.std.specs.Str.{bytes_eq}
use Rattle.step_values.specs.AgreementTests.{each_test}
use Rattle.step_values.specs.Views.{word_of}
use Rattle.value_equality.proofs.row.same_words.Given as goal

-- what is left decides
abbrev pub invariant-loop-i : goal.invariant-loop-i
invariant-loop-i l = record {
  alike : length l.a ≡ length l.b;
  rest : each_test bytes_eq (map word_of (drop l.i l.a)) (map word_of (drop l.i l.b)) ≡ each_test bytes_eq
      (map word_of l.a) (map word_of l.b);
}
