use Rattle.std.proofs.Common.{sym, ◌∙◌, arith, ap, ◌∷◌}
use Rattle.std.proofs.lemmas.Bool.Decides.{nat_tests}
use Rattle.step_lexer.proofs.LeftOutLemmas.{user_none_at, user_at, word_run}
use Rattle.step_lexer.proofs.words.user_defined_at.Goals.{then-is_empty-via-then-is_empty, then-is_empty-via-else-is_empty+then-not-is_letter}
use Rattle.step_lexer.proofs.words.user_defined_at.Goals as goal

pub returns-then-is_empty : goal.returns-then-is_empty
returns-then-is_empty c =
    user_none_at c.args.bytes.now c.split_at.result.1.now c.requires c.split_at.ensures.back
    (λ h. elim c.then-is_empty.branch [
      | then-is_empty-via-then-is_empty w ↦ absurd (grind (arith, nat_tests))
      | then-is_empty-via-else-is_empty+then-not-is_letter w ↦ sym w.is_letter.ensures ∙ w.if-not-is_letter.true
    ])

pub from_keyword-requires : goal.from_keyword-requires
from_keyword-requires c = word_run c.split_at.result.1.now c.split_at-2.result.0.now c.word_len-len.result
    c.word_len-len.ensures.len c.split_at-2.ensures.front (sym c.is_letter.ensures ∙ c.if-not-is_letter.false)

pub returns : goal.returns
returns c =
    let u = user_at c.args.bytes.now c.split_at.result.1.now c.split_at-2.result.0.now c.word_len-len.result c.requires
    c.split_at.ensures.back c.word_len-len.ensures.len c.split_at-2.ensures.front (sym c.is_letter.ensures
    ∙ c.if-not-is_letter.false) in
    record { within = u.0; next = u.1; value = ap (λ w. 33 ∷ w) c.from_keyword.ensures ∙ u.2 }
