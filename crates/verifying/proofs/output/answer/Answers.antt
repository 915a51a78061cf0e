use Rattle.std.proofs.Common.{IfOk, subst}
use Rattle.step_exchange.specs.Exchanges.{structure}
use Rattle.schema_names.specs.Schemas.{the_schema}
use Rattle.verifying.specs.steps.ComputedPassing.{IsJudgement, IsReady}
use Rattle.verifying.proofs.Comparing.{held_back}
use Rattle.verifying.proofs.output.answer.Goals as goal

pub compare-requires : goal.compare-requires
compare-requires c = subst (λ r. IfOk r IsReady) c.in-Ok.is c.requires

pub returns-in-Ok : goal.returns-in-Ok
returns-in-Ok c chosen certificate f has judged same =
    let q = c.args.population in
    c.compare.ensures chosen certificate f has (subst (IsJudgement (the_schema q.types.now.names) chosen f certificate)
    c.in-Ok.is judged) same

pub returns-in-Err : goal.returns-in-Err
returns-in-Err c chosen certificate f has judged same =
    let q = c.args.population in
    let s = the_schema q.types.now.names in
    held_back s chosen f (structure q.exchange.now) certificate c.in-Err.fault
    (subst (IsJudgement s chosen f certificate) c.in-Err.is judged)
