use Rattle.std.proofs.Common.{subst}
use Rattle.std.proofs.lemmas.Result.{err_from_is_err_and}
use Rattle.value_equality.specs.Maps as maps
use Rattle.value_equality.specs.Tables.{IsValid}
use Rattle.value_equality.specs.TableViews.{table_of}
use Rattle.certificate_checks.specs.TableFaults.{IsTableFaultOf}
use Rattle.verifying.proofs.Judging.{of_judge}
use Rattle.verifying.proofs.tables.judge_under.Goals as goal

pub returns-in_err-judge_by : goal.returns-in_err-judge_by
returns-in_err-judge_by c =
    let rows = c.args.rows.now in
    let t = table_of c.args.table.now in
    let p = err_from_is_err_and c.from_residual.result c.from_residual.ensures.1 in
    let e = c.in_err-judge_by.field-0.0 in
    rw (p.1, p.2) (of_judge rows (maps.is_pinned c.args.pins.now.names) t e
    (subst (λ names. IsTableFaultOf rows (maps.is_pinned names) t e) c.names.ensures c.in_err-judge_by.ensures))

pub returns : goal.returns
returns c =
    subst (λ names. IsValid c.args.rows.now (maps.is_pinned names) (table_of c.args.table.now)) c.names.ensures
    c.in_ok-judge_by.ensures
