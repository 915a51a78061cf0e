use Rattle.std.proofs.lemmas.Result.{err_from_is_err_and}
use Rattle.value_equality.specs.steps.ComputedPlaces.{is_found}
use Rattle.value_equality.proofs.Laying.{row_refused}
use Rattle.value_equality.proofs.value_rows.laid_down.Goals as goal

pub returns-in_err-push_values-clause-fault : goal.returns-in_err-push_values-clause-fault
returns-in_err-push_values-clause-fault c =
    let p = err_from_is_err_and c.from_residual-in_err-push_values.result c.from_residual-in_err-push_values.ensures.1
    in
    rw (p.1, p.2) (row_refused (is_found c.args.places.now) c.args.rows.now c.loop-row.row-index
    c.row-item.result c.loop-row-test.true c.row-item.is _
    (rw c.deref.ensures.value at c.in_err-push_values.ensures.fault))
