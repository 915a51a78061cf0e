use Rattle.std.proofs.Common.{subst}
use Rattle.std.proofs.lemmas.Result.{err_from_is_err_and}
use Rattle.certificate_text.specs.Faults.{IsCertificateFaultOf}
use Rattle.certificate_text.specs.Texts.{IsCertificate}
use Rattle.value_equality.specs.TableViews.{table_of}
use Rattle.verifying.proofs.Judging.{unread}
use Rattle.verifying.proofs.tables.judge_certificate.Goals as goal

pub returns-in_err-first-clause-judged : goal.returns-in_err-first-clause-judged
returns-in_err-first-clause-judged c s chosen f known =
    let p = err_from_is_err_and c.from_residual.result c.from_residual.ensures.1 in
    let e = c.in_err-first.field-0.0 in
    rw (p.1, p.2) (unread s chosen f c.args.certificate.items e
    (subst (λ text. IsCertificateFaultOf text e) c.deref.ensures.value c.in_err-first.ensures.fault))

pub returns-clause-judged : goal.returns-clause-judged
returns-clause-judged c s chosen f known =
    c.judge_pair.ensures.judged s chosen f c.args.certificate.items
    (subst (λ text. IsCertificate text (table_of c.in_ok-first.first) (table_of c.in_ok-first.second))
    c.deref.ensures.value c.in_ok-first.ensures.tables) known
