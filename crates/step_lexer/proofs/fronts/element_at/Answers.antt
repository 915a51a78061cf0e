use Rattle.std.proofs.Common.{sym, ap, arith, rules, ◌∙◌, [], ◌∷◌, ◌++◌}
use Rattle.std.proofs.lemmas.Bool.Decides.{nat_tests}
use Rattle.step_lexer.proofs.FrontLemmas.{element_at, element_none_at, element_open_at}
use Rattle.step_lexer.proofs.LeftOutLemmas.{word_run}
use Rattle.step_lexer.proofs.fronts.element_at.Goals.{then-is_empty-via-then-is_empty, then-is_empty-via-else-is_empty+then-not-is_letter}
use Rattle.step_lexer.proofs.fronts.element_at.Goals as goal

pub returns-then-is_empty : goal.returns-then-is_empty
returns-then-is_empty c =
    element_none_at c.args.bytes.now c.split_at.result.1.now c.requires c.split_at.ensures.back
    (λ h. elim c.then-is_empty.branch [
      | then-is_empty-via-then-is_empty w ↦ absurd (grind (arith, nat_tests))
      | then-is_empty-via-else-is_empty+then-not-is_letter w ↦ sym w.is_letter.ensures ∙ w.if-not-is_letter.true
    ])

pub returns-then-is_empty-2 : goal.returns-then-is_empty-2
returns-then-is_empty-2 c =
    element_open_at c.args.bytes.now c.split_at.result.1.now c.split_at-2.result.1.now c.word_len.result c.requires
    c.split_at.ensures.back c.word_len.ensures.len c.split_at-2.ensures.back (λ h. grind (arith, nat_tests))

pub returns : goal.returns
returns c =
    let e = element_at c.args.bytes.now c.split_at.result.1.now c.split_at-2.result.0.now c.split_at-2.result.1.now
    c.word_len.result c.requires c.split_at.ensures.back c.word_len.ensures.len c.split_at-2.ensures.front
    c.split_at-2.ensures.back (sym c.is_letter.ensures ∙ c.if-not-is_letter.false) (search rules)
    c.if-after-ne46.false in
    record { within = e.0; next = e.1; value = ap (λ w. 46 ∷ w ++ 46 ∷ []) c.from_keyword.ensures ∙ e.2 }

pub from_keyword-requires : goal.from_keyword-requires
from_keyword-requires c = word_run c.split_at.result.1.now c.split_at-2.result.0.now c.word_len.result
    c.word_len.ensures.len c.split_at-2.ensures.front (sym c.is_letter.ensures ∙ c.if-not-is_letter.false)
