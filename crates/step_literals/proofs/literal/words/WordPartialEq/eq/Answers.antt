use Rattle.std.proofs.lemmas.Bool.Decides.{same_from_decides}
use Rattle.std.specs.Prelude.{nat_eq}
use Rattle.std.specs.Cmp.Lexicographic.{pointwise, bytes_decides}
use Rattle.step_literals.specs.Values.{word_value}
use Rattle.step_literals.proofs.CaseLemmas.{same_without_case}
use Rattle.step_literals.proofs.literal.words.WordPartialEq.eq.Goals as goal

pub returns : goal.returns
returns c =
    let s = c.args.self.now in
    let t = c.args.other.now in
    let case = same_without_case s.text.now t.text.now in
    let test = c.eq_ignore_ascii_case.ensures.test in
    same_from_decides c.eq_ignore_ascii_case.result (pointwise nat_eq (word_value s) (word_value t))
    (λ e. case.0 (test.0 e), λ e. test.1 (case.1 e)) (bytes_decides (word_value s) (word_value t))
