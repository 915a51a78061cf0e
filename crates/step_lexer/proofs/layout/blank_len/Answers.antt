use Rattle.std.proofs.Common.{sym, ◌∙◌, arith}
use Rattle.std.proofs.lemmas.Bool.{false≢true}
use Rattle.step_lexer.proofs.LayoutLemmas.{no_blank, not_opened, not_closed, comment_at, opens}
use Rattle.step_lexer.proofs.layout.blank_len.Goals.{then-bytes-lt2-via-then-bytes-lt2, then-bytes-lt2-via-else-bytes-lt2+then-bytes-ne47, then-bytes-lt2-via-else-bytes-lt2+else-bytes-ne47+then-bytes-ne42}
use Rattle.step_lexer.proofs.layout.blank_len.Goals as goal

pub returns-then-bytes-lt2 : goal.returns-then-bytes-lt2
returns-then-bytes-lt2 c =
    no_blank c.args.bytes.now (omega (arith, c.if-first-le32.false))
    (λ h. false≢true (sym c.if-says.false ∙ c.says.ensures.1 h))
    (λ h. false≢true (sym c.if-says-2.false ∙ c.says-2.ensures.1 h))
    (λ r more k e found. not_opened c.args.bytes.now r more k
    (λ o. elim c.then-bytes-lt2.branch [
      | then-bytes-lt2-via-then-bytes-lt2 w ↦ omega (
        arith,
        w.if-bytes-lt2.true,
        o.0,
      )
      | then-bytes-lt2-via-else-bytes-lt2+then-bytes-ne47 w ↦ w.if-bytes-ne47.true o.1
      | then-bytes-lt2-via-else-bytes-lt2+else-bytes-ne47+then-bytes-ne42 w ↦ w.if-bytes-ne42.true o.2
    ]) e found)

pub returns-in-Some : goal.returns-in-Some
returns-in-Some c =
    comment_at c.args.bytes.now c.split_at.result.1.now c.in-Some.at (opens c.args.bytes.now c.split_at.result.1.now
    (omega (arith, c.if-bytes-lt2.false)) c.if-bytes-ne47.false c.if-bytes-ne42.false c.split_at.ensures.back)
    c.in-Some.ensures

pub returns-in-None : goal.returns-in-None
returns-in-None c =
    no_blank c.args.bytes.now (omega (arith, c.if-first-le32.false))
    (λ h. false≢true (sym c.if-says.false ∙ c.says.ensures.1 h))
    (λ h. false≢true (sym c.if-says-2.false ∙ c.says-2.ensures.1 h))
    (λ r more k e found. not_closed c.args.bytes.now c.split_at.result.1.now r more k
    (opens c.args.bytes.now c.split_at.result.1.now (omega (arith, c.if-bytes-lt2.false)) c.if-bytes-ne47.false
    c.if-bytes-ne42.false c.split_at.ensures.back) c.in-None.ensures e found)
