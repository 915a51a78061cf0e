use Rattle.std.proofs.Common.{◌≡◌, ◌∙◌, length, arith}
use Rattle.std.proofs.lemmas.Bool.Decides.{nat_tests}
use Rattle.step_literals.proofs.KeywordLemmas.{keyword_whole, keyword_len}
use Rattle.step_literals.proofs.bytes.is_keyword.Goals as goal

pub returns : goal.returns
returns c =
    let l = c.args.bytes.now in (
      λ h. (let e : c.word_len.result ≡ length l = grind (arith, nat_tests) in keyword_whole l (cc)
          (omega (arith, e, c.word_len.ensures.len))),
      λ k. (let e : c.word_len.result ≡ length l = c.word_len.ensures.len ∙ keyword_len l k in
          grind (arith, nat_tests)),
    )
