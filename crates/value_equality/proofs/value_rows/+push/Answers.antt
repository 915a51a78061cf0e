use Rattle.std.proofs.lemmas.Result.{err_from_is_err_and}
use Rattle.value_equality.specs.steps.ComputedPlaces.{is_found}
use Rattle.value_equality.proofs.Laying.{value_refused}
use Rattle.value_equality.proofs.value_rows.+push.Goals as goal

pub push_values-returns-in_err-push_value-clause-fault : goal.push_values-returns-in_err-push_value-clause-fault
push_values-returns-in_err-push_value-clause-fault t c =
    let p = err_from_is_err_and c.from_residual.result c.from_residual.ensures.1 in
    rw (p.1, p.2) (value_refused (is_found c.args.places.now) c.args.values.now c.loop-value.value-index
    c.value-item.result c.loop-value-test.true c.value-item.is _ c.in_err-push_value.ensures.fault)
