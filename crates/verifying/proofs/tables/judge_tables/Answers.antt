use Rattle.std.proofs.Common.{inl}
use Rattle.std.proofs.lemmas.Result.{err_from_is_err_and}
use Rattle.value_equality.specs.TableViews.{table_of}
use Rattle.population_pins.specs.PopulationPins.{is_pinned}
use Rattle.verifying.proofs.Judging.{valid_first, valid_same}
use Rattle.verifying.proofs.tables.judge_tables.Goals as goal

pub returns-in_err-signatures : goal.returns-in_err-signatures
returns-in_err-signatures c =
    let p = err_from_is_err_and c.from_residual.result c.from_residual.ensures.1 in
    rw (p.1, p.2) (inl tt)

pub returns-then-is_judged : goal.returns-then-is_judged
returns-then-is_judged c =
    valid_same c.args.rows.now (is_pinned c.args.weak.now) (is_pinned c.args.gentle.now) (table_of c.args.first)
    (table_of c.args.second.now) c.judge_under.result c.if-is_judged.ensures.pins c.if-is_judged.ensures.tables
    c.judge_under.ensures

pub returns-in_err-judge_under : goal.returns-in_err-judge_under
returns-in_err-judge_under c =
    let p = err_from_is_err_and c.from_residual-in_err-judge_under.result
    c.from_residual-in_err-judge_under.ensures.1 in
    rw (p.1, p.2) (inl c.in_err-judge_under.ensures)

pub returns : goal.returns
returns c =
    valid_first c.args.rows.now (is_pinned c.args.weak.now) (is_pinned c.args.gentle.now) (table_of c.args.first)
    (table_of c.args.second.now) c.judge_under-3.result c.in_ok-judge_under.ensures c.judge_under-3.ensures
